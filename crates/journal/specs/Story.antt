-- The units that one reads off steps and their replies, without any map. Source: docs/THEOREMS.md, "The one-map theorem".
use Rattle.std.specs.Prelude.{ℕ, Bool, true, false, List, [], ◌∷◌, ◌++◌, length, Option, None, Some, if◌then◌else◌}
use Rattle.std.specs.Ordering.{nat_cmp}
use Rattle.std.specs.FinMap as finmap
use Rattle.std.specs.FinMap.{FinMap}
use Rattle.lock_name.specs.declared.lock.LockCommand.{LockCommand}
use Rattle.command.specs.declared.access.DataCommand.{DataCommand}
use Rattle.command.specs.declared.access.Answer.{Answer}
use Rattle.command.specs.declared.request.Command.{Command}
use Rattle.command.specs.declared.request.Command.TheVariants.{Access, Lock as lock_command, Start, Commit, Rollback, Restart, Halt}
use Rattle.command.specs.declared.request.Reply.{Reply}
use Rattle.command.specs.declared.request.Reply.TheVariants.{Answered, Finished, Had, AtLevel, Committed, Restarted}
use Rattle.journal.specs.declared.unit.Exchange.{Exchange}
use Rattle.journal.specs.declared.unit.Unit.{Unit as JournalUnit}
use Rattle.journal.specs.declared.unit.Unit.TheVariants.{Lone, Whole, Lock, Back, End}

-- an open transaction: its level, how often it was restarted, how many units stood when it began, and since then its data commands and whether it took a LOCK
pub record Transaction : Type 0 where
  pub level : ℕ
  pub restarts : ℕ
  pub start : ℕ
  pub exchanges : List Exchange
  pub took_lock : Bool

-- the units so far, and the open transaction of each job that has one
pub record Machine : Type 0 where
  pub units : List JournalUnit
  pub transactions : FinMap nat_cmp Transaction

abbrev pub nothing_done : Machine
nothing_done = record { units = []; transactions = finmap.empty }

-- the job's open transaction
abbrev pub transaction_of : ℕ → Machine → Option Transaction
transaction_of job s = finmap.get s.transactions job

abbrev pub add_unit : JournalUnit → Machine → Machine
add_unit u s = record { units = s.units ++ u ∷ []; transactions = s.transactions }

abbrev pub put_transaction : ℕ → Transaction → Machine → Machine
put_transaction job t s = record { units = s.units; transactions = finmap.insert s.transactions job t }

abbrev pub close : ℕ → Machine → Machine
close job s = record { units = s.units; transactions = finmap.remove s.transactions job }

-- a transaction begins, after this many restarts
abbrev pub begin : ℕ → ℕ → Machine → Machine
begin job restarts s = put_transaction job (record { level = 1; restarts = restarts; start = length s.units; exchanges = []; took_lock = false }) s

-- a data command with this answer is a unit of its own, or kept in the transaction
abbrev pub told_answer : ℕ → DataCommand → Answer → Option Transaction → Machine → Machine
told_answer job command answer None s = add_unit (Lone job command answer) s
told_answer job command answer (Some t) s = put_transaction job (record t { exchanges = t.exchanges ++ record { command = command; answer = answer } ∷ [] }) s

-- a LOCK, with names that were had or not
abbrev pub told_lock : ℕ → LockCommand → Bool → Option Transaction → Machine → Machine
told_lock job command had None s = add_unit (Lock job false command had) s
told_lock job command had (Some t) s = put_transaction job (record t { took_lock = true }) (add_unit (Lock job true command had) s)

-- a TSTART or TCOMMIT that leaves this level
abbrev pub told_level : ℕ → ℕ → Option Transaction → Machine → Machine
told_level job level None s = begin job 0 s
told_level job level (Some t) s = put_transaction job (record t { level = level }) s

-- a commit: the transaction is a unit
abbrev pub told_commit : ℕ → Option Transaction → Machine → Machine
told_commit job None s = s
told_commit job (Some t) s = close job (add_unit (Whole job t.exchanges) s)

-- a transaction that took a LOCK goes back
abbrev pub told_back : ℕ → Option Transaction → Machine → Machine
told_back job None s = s
told_back job (Some t) s = if t.took_lock then add_unit (Back job) s else s

-- ---- what a step changes, reply by reply and command by command: a reply that isn't the command's own changes nothing

-- a data command was answered
abbrev pub on_answered : ℕ → Command → Answer → Machine → Machine
on_answered job (Access command) answer s = told_answer job command answer (transaction_of job s) s
on_answered job command answer s = s

-- LOCK without names, TROLLBACK, HALT are done
abbrev pub on_finished : ℕ → Command → Machine → Machine
on_finished job (lock_command command) s = told_lock job command true (transaction_of job s) s
on_finished job Rollback s = close job (told_back job (transaction_of job s) s)
on_finished job Halt s = close job (add_unit (End job) s)
on_finished job command s = s

-- a LOCK had its names, or had not
abbrev pub on_had : ℕ → Command → Bool → Machine → Machine
on_had job (lock_command command) had s = told_lock job command had (transaction_of job s) s
on_had job command had s = s

-- TSTART, or an inner TCOMMIT, left this level
abbrev pub on_level : ℕ → Command → ℕ → Machine → Machine
on_level job Start level s = told_level job level (transaction_of job s) s
on_level job Commit level s = told_level job level (transaction_of job s) s
on_level job command level s = s

-- an outer TCOMMIT committed
abbrev pub on_committed : ℕ → Command → Machine → Machine
on_committed job Commit s = told_commit job (transaction_of job s) s
on_committed job command s = s

-- TRESTART, or a TCOMMIT that was overtaken, began anew
abbrev pub on_restarted : ℕ → Command → ℕ → Machine → Machine
on_restarted job Commit restarts s = begin job restarts (told_back job (transaction_of job s) s)
on_restarted job Restart restarts s = begin job restarts (told_back job (transaction_of job s) s)
on_restarted job command restarts s = s

-- what a step changes, read from its reply: one that is refused, or counts, nothing
abbrev pub told : ℕ → Command → Reply → Machine → Machine
told job command (Answered answer) s = on_answered job command answer s
told job command Finished s = on_finished job command s
told job command (Had had) s = on_had job command had s
told job command (AtLevel level) s = on_level job command level s
told job command Committed s = on_committed job command s
told job command (Restarted restarts) s = on_restarted job command restarts s
told job command reply s = s

-- what steps and their replies change, in turn
abbrev pub story_of : List (ℕ × Command) → List Reply → Machine → Machine
story_of (step ∷ steps) (reply ∷ replies) s = story_of steps replies (told step.0 step.1 reply s)
story_of steps replies s = s
