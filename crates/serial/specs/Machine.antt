-- The machine: what each step of a job is replied, and what it leaves. Source: docs/RULES.md, "Transactions", "Locks", "Refusals".
use Rattle.std.specs.Prelude.{◌≡◌, ◌⊎◌, ⊤, ℕ, ◌+◌, ◌-◌, ◌^◌, min, nat_lt, Bool, true, false, not, List, [], ◌∷◌, length, take, drop, Option, None, Some, option_map, unwrap_or, if◌then◌else◌}
use Rattle.refusal.specs.declared.Refusal.{Refusal}
use Rattle.refusal.specs.declared.Refusal.TheVariants.{NoTransaction, LevelTooDeep, TransactionTooLong, StampsUsedUp, OutOfMemory}
use Rattle.collation.specs.Limits.{most_commands, most_levels}
use Rattle.lock_name.specs.declared.lock.LockCommand.{LockCommand}
use Rattle.lock_name.specs.declared.lock.LockCommand.TheVariants.{Release}
use Rattle.collation.specs.Database.{Database}
use Rattle.command.specs.declared.access.DataCommand.{DataCommand}
use Rattle.command.specs.declared.request.Command.{Command}
use Rattle.command.specs.declared.request.Command.TheVariants.{Access, Lock, Start, Commit, Rollback, Restart, Level, Restarts, Halt}
use Rattle.command.specs.declared.request.Reply.{Reply}
use Rattle.command.specs.declared.request.Reply.TheVariants.{Answered, Finished, Had, Count, AtLevel, Committed, Restarted, Refused}
use Rattle.command.specs.Data.{data_refusal, data_reply}
use Rattle.globals.specs.Answering.{early_refusal}
use Rattle.lock_name.specs.Locks.{LockState, lock_refusal, lock_reply}
use Rattle.journal.specs.declared.unit.Unit.{Unit as JournalUnit}
use Rattle.journal.specs.History.{State, initial, after, all_after}
use Rattle.journal.specs.Touching.{has_read, any_touched}
use Rattle.journal.specs.Story.{Transaction, Machine, transaction_of, told}

-- ---- what a transaction sees

-- the state that the first n units leave
abbrev pub state_at : ℕ → List JournalUnit → State
state_at n units = after (take n units) initial

-- the database that a transaction sees: that of its start, followed by its own commands
abbrev pub seen_by : Transaction → List JournalUnit → Database
seen_by t units = all_after t.exchanges (state_at t.start units).map

-- a unit after the transaction's start touched a reference that it has read
abbrev pub is_overtaken : Transaction → List JournalUnit → Bool
is_overtaken t units = any_touched (has_read t.exchanges (state_at t.start units).map) (drop t.start units) (state_at t.start units)

-- ---- replies

abbrev pub refused_or : Option Refusal → Reply → Reply
refused_or (Some refusal) reply = Refused refusal
refused_or None reply = reply

-- outside a transaction there is none to end or to begin anew
abbrev pub in_transaction : (Transaction → Reply) → Option Transaction → Reply
in_transaction reply t = unwrap_or (option_map reply t) (Refused NoTransaction)

-- a number of the job's transaction, 0 outside one
abbrev pub number_in : (Transaction → ℕ) → Option Transaction → ℕ
number_in number t = unwrap_or (option_map number t) 0

-- a data command on a database
abbrev pub reply_on : DataCommand → Database → Reply
reply_on command m = refused_or (data_refusal command m) (Answered (data_reply command m))

-- outside a transaction it sees what all units leave; a transaction holds at most 65,535 data commands
abbrev pub reply_to_data : DataCommand → Option Transaction → List JournalUnit → Reply
reply_to_data command None units = reply_on command (after units initial).map
reply_to_data command (Some t) units = if nat_lt (length t.exchanges) most_commands then reply_on command (seen_by t units) else Refused TransactionTooLong

-- whether the names were had, where a LOCK has names
abbrev pub told_had : LockCommand → Bool → Reply
told_had Release had = Finished
told_had command had = Had had

abbrev pub reply_to_lock : ℕ → LockCommand → LockState → Reply
reply_to_lock job command s = refused_or (lock_refusal job command s) (told_had command (lock_reply job command s))

-- levels are at most `most_levels`
abbrev pub reply_to_start : Option Transaction → Reply
reply_to_start None = AtLevel 1
reply_to_start (Some t) = if nat_lt t.level most_levels then AtLevel (t.level + 1) else Refused LevelTooDeep

-- restarts are counted up to 2^64 - 1
abbrev pub restarted : Transaction → Reply
restarted t = Restarted (min (t.restarts + 1) (2 ^ 64 - 1))

-- an inner commit lowers the level; the outermost restarts the transaction exactly where it is overtaken
abbrev pub reply_to_commit : List JournalUnit → Transaction → Reply
reply_to_commit units t = if nat_lt 1 t.level then AtLevel (t.level - 1) else (if is_overtaken t units then restarted t else Committed)

-- the reply to a command, were there room for any number of units
abbrev pub reply_with_room : ℕ → Command → Machine → Reply
reply_with_room job (Access command) s = reply_to_data command (transaction_of job s) s.units
reply_with_room job (Lock command) s = reply_to_lock job command (after s.units initial).locks
reply_with_room job Start s = reply_to_start (transaction_of job s)
reply_with_room job Commit s = in_transaction (reply_to_commit s.units) (transaction_of job s)
reply_with_room job Rollback s = in_transaction (λ t. Finished) (transaction_of job s)
reply_with_room job Restart s = in_transaction restarted (transaction_of job s)
reply_with_room job Level s = Count (number_in (λ t. t.level) (transaction_of job s))
reply_with_room job Restarts s = Count (number_in (λ t. t.restarts) (transaction_of job s))
reply_with_room job Halt s = Finished

-- ---- steps and runs

-- what a job is replied: it is refused where the units would pass 2^64 - 1
abbrev pub reply_of : ℕ → Command → Machine → Reply
reply_of job command s = if nat_lt (2 ^ 64 - 1) (length (told job command (reply_with_room job command s) s).units) then Refused StampsUsedUp else reply_with_room job command s

-- what a step leaves: what its reply tells
abbrev pub step_of : ℕ → Command → Machine → Machine
step_of job command s = told job command (reply_of job command s) s

-- what steps leave, each in its turn
abbrev pub run_of : List (ℕ × Command) → Machine → Machine
run_of [] s = s
run_of (step ∷ steps) s = run_of steps (step_of step.0 step.1 s)

-- the reply to each, in order
abbrev pub replies_of : List (ℕ × Command) → Machine → List Reply
replies_of [] s = []
replies_of (step ∷ steps) s = reply_of step.0 step.1 s ∷ replies_of steps (step_of step.0 step.1 s)

-- ---- replies where memory may be refused

-- the refusal that is looked at before anything takes memory
abbrev pub early_of : Command → Option Transaction → Option Refusal
early_of (Access command) None = early_refusal command
early_of (Access command) (Some t) = if nat_lt (length t.exchanges) most_commands then early_refusal command else Some TransactionTooLong
early_of Start (Some t) = if nat_lt t.level most_levels then None else Some LevelTooDeep
early_of Commit None = Some NoTransaction
early_of Rollback None = Some NoTransaction
early_of Restart None = Some NoTransaction
early_of command t = None

-- the command takes no memory: what only looks, a level within a transaction, and what undoes one that took no LOCK, or finds none
abbrev pub takes_none : Command → Option Transaction → Bool
takes_none (Access command) t = false
takes_none (Lock command) t = false
takes_none Start None = false
takes_none Commit (Some t) = nat_lt 1 t.level
takes_none Rollback (Some t) = not t.took_lock
takes_none Restart (Some t) = not t.took_lock
takes_none Halt t = false
takes_none command t = true

-- memory may be wanting: the command takes some, and no rule refuses it before
pub record MayWantMemory (command : Command) (t : Option Transaction) : Type 0 where
  pub late : early_of command t ≡ None
  pub takes : takes_none command t ≡ false

-- the step has the machine's reply, or the reply that memory was wanting where it may be, which leaves all as it was
abbrev pub IsReply : ℕ → Command → Reply → Machine → Type 0
IsReply job command reply s = (reply ≡ reply_of job command s) ⊎ ((reply ≡ Refused OutOfMemory) × MayWantMemory command (transaction_of job s))

-- each step has such a reply at its place
abbrev pub AreReplies : List (ℕ × Command) → List Reply → Machine → Type 0
AreReplies [] [] s = ⊤
AreReplies (step ∷ steps) (reply ∷ replies) s = IsReply step.0 step.1 reply s × AreReplies steps replies (told step.0 step.1 reply s)
AreReplies steps replies s = ⊥
