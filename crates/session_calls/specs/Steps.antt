-- What a command of a session does, and what it is answered.
-- Read HasStepped and NeedsTurn; what the first's parts mean is in Blocks.antt and Engines.antt of shared_engine.
use Rattle.std.specs.Prelude.{◌≡◌, ◌⊎◌, ⊤, ℕ, ◌+◌, ◌-◌, ◌≤◌, ◌<◌, Bool, true, List, Result, Ok, Err, OnOk}
use Rattle.refusal.specs.declared.Refusal.{Refusal}
use Rattle.refusal.specs.declared.Refusal.TheVariants.{BadLine, NoTransaction, LevelTooDeep}
use Rattle.collation.specs.Limits.{most_levels}
use Rattle.command.specs.declared.access.DataCommand.{DataCommand}
use Rattle.command.specs.declared.access.Answer.{Answer}
use Rattle.command.specs.declared.request.Command.{Command}
use Rattle.command.specs.declared.request.Command.TheVariants.{Access, Lock, Start, Commit, Rollback, Restart, Level, Restarts, Halt}
use Rattle.command.specs.declared.request.Reply.{Reply}
use Rattle.command.specs.declared.request.Reply.TheVariants.{Answered, Finished, Count, AtLevel, Committed, Restarted as RestartedReply, Refused}
use Rattle.journal.specs.declared.unit.Unit.{Unit as JournalUnit}
use Rattle.serial.specs.Machine.{told_had}
use Rattle.validate_commit.specs.Verdicts.{IsCauseAtCommit}
use Rattle.job_core.specs.Sessions.{at_level}
use Rattle.pin_board.specs.Slips.{IsBeginning}
use Rattle.shared_engine.specs.Sessions.{Held, held, knowing, HasBegun, IsJournalOf}
use Rattle.shared_engine.specs.Blocks.{said, IsLone, IsInside, IsRolledBack, IsRestarted, WasTried}
use Rattle.shared_engine.specs.Engines.{HasEnded, IsCauseAtRestart}
use Rattle.shared_engine.specs.Writes.{AreWrites}
use Rattle.shared_engine.specs.declared.locked.Ended.{Ended}
use Rattle.shared_engine.specs.declared.locked.Ended.TheVariants.{Committed as WasCommitted, Restarted as WasRestarted}

-- a data command: outside a transaction a step of its own, inside one on the map of its start and its own commands; on a
-- journal that goes on from what the session had seen
pub record HasAccessed (command : DataCommand) (result : Result Answer Refusal) (old new : Held) : Type 0 where
  pub units : List JournalUnit
  pub goes_on : IsBeginning units old.seen
  pub alone : old.state.level ≡ 0 → IsLone command result units new.seen old new
  pub inside : 1 ≤ old.state.level → IsInside command result units new.seen old new × IsJournalOf new.seen old

-- a TSTART: the outermost begins a transaction, and tells 1; another raises its level, unless that is the greatest
abbrev pub HasBegunOne : Result ℕ Refusal → Held → Held → Type 0
HasBegunOne (Ok level) old new = (level ≡ 1) × ((base : List JournalUnit) × HasBegun base old new)
HasBegunOne (Err refusal) old new = ⊥

abbrev pub HasGoneDeeper : Result ℕ Refusal → Held → Held → Type 0
HasGoneDeeper (Ok level) old new = (level ≡ old.state.level + 1) × ((old.state.level < most_levels) × (new ≡ held (at_level level old.state) old.start old.receipts old.others old.seen))
HasGoneDeeper (Err refusal) old new = (refusal ≡ LevelTooDeep) × ((most_levels ≤ old.state.level) × (new ≡ old))

-- TCOMMIT, TROLLBACK or TRESTART without a transaction
abbrev pub HadNone : Reply → Held → Held → Type 0
HadNone reply old new = (reply ≡ Refused NoTransaction) × (new ≡ old)

-- what the end of a transaction is answered
abbrev pub ended_reply : Ended → Reply
ended_reply WasCommitted = Committed
ended_reply (WasRestarted restarts) = RestartedReply restarts

-- the outermost TCOMMIT: it is committed, or begins anew, which one of SETs and KILLs alone never does; or it is refused for its cause,
-- and has seen the journal
abbrev pub HasClosed : Result Ended Refusal → Held → Held → Type 0
HasClosed (Ok end) old new =
    ((units : List JournalUnit) × IsJournalOf units old × HasEnded end units new.seen old new) × (AreWrites old.state.work.exchanges → end ≡ WasCommitted)
HasClosed (Err refusal) old new =
    (IsJournalOf new.seen old × (new ≡ knowing new.seen old)) × (IsCauseAtCommit refusal old.state.work new.seen ⊎ IsCauseAtRestart refusal old.state new.seen)

-- a TCOMMIT of an inner level: it is one lower
abbrev pub IsOneLower : Reply → Held → Held → Type 0
IsOneLower reply old new = (reply ≡ AtLevel (old.state.level - 1)) × (new ≡ held (at_level (old.state.level - 1) old.state) old.start old.receipts old.others old.seen)

-- TROLLBACK or TRESTART of a transaction, on a journal that goes on from what the session had seen
abbrev pub HasGone : {A : Type 0} → (Result A Refusal → List JournalUnit → List JournalUnit → Held → Held → Type 0) → Result A Refusal → Held → Held → Type 0
HasGone Is result old new = (units : List JournalUnit) × IsBeginning units old.seen × Is result units new.seen old new

-- the command did this on the session, and this is its reply. HALT is none of these: it takes the session
abbrev pub HasStepped : Command → Reply → Held → Held → Type 0
HasStepped (Access command) reply old new = (result : Result Answer Refusal) × (reply ≡ said Answered result) × HasAccessed command result old new
HasStepped (Lock command) reply old new = (result : Result Bool Refusal) × (reply ≡ said (told_had command) result) × WasTried command result old new
HasStepped Start reply old new =
    (result : Result ℕ Refusal) × (reply ≡ said AtLevel result) × (old.state.level ≡ 0 → HasBegunOne result old new) × (1 ≤ old.state.level → HasGoneDeeper result old new)
HasStepped Commit reply old new =
    (old.state.level ≡ 0 → HadNone reply old new)
    × (old.state.level ≡ 1 → (result : Result Ended Refusal) × (reply ≡ said ended_reply result) × HasClosed result old new)
    × (1 < old.state.level → IsOneLower reply old new)
HasStepped Rollback reply old new =
    (old.state.level ≡ 0 → HadNone reply old new)
    × (1 ≤ old.state.level → (result : Result (Unit {0}) Refusal) × (reply ≡ said (λ d. Finished) result) × HasGone IsRolledBack result old new)
HasStepped Restart reply old new =
    (old.state.level ≡ 0 → HadNone reply old new)
    × (1 ≤ old.state.level → (result : Result ℕ Refusal) × (reply ≡ said RestartedReply result) × HasGone IsRestarted result old new × OnOk result (IsJournalOf new.seen old))
HasStepped Level reply old new = (reply ≡ Count old.state.level) × (new ≡ old)
HasStepped Restarts reply old new = (reply ≡ Count old.state.restarts) × (new ≡ old)
HasStepped Halt reply old new = (reply ≡ Refused BadLine) × (new ≡ old)

-- the command needs what all share, at which others may be: all but those that the session answers by itself
abbrev pub NeedsTurn : Command → Held → Type 0
NeedsTurn (Access command) h = ⊤
NeedsTurn (Lock command) h = ⊤
NeedsTurn Start h = h.state.level ≡ 0
NeedsTurn Commit h = h.state.level ≡ 1
NeedsTurn Rollback h = (1 ≤ h.state.level) × (h.state.took_lock ≡ true)
NeedsTurn Restart h = 1 ≤ h.state.level
NeedsTurn Level h = ⊥
NeedsTurn Restarts h = ⊥
NeedsTurn Halt h = ⊥
