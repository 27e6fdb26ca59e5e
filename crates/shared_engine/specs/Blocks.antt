-- What a block of commands does under one hold of the lock: each command in its turn, on the units that are there by
-- then. Read HasDone, then AreDone.
use Rattle.std.specs.Prelude.{◌≡◌, ◌≢◌, ◌⊎◌, ⊤, ℕ, ◌+◌, ◌-◌, ◌≤◌, ◌<◌, not, Bool, true, false, List, [], ◌∷◌, ◌++◌, length, Option, None, Some, slice_get, unwrap_or, Result, Ok, Err, IsErrOf}
use Rattle.refusal.specs.declared.Refusal.{Refusal}
use Rattle.refusal.specs.declared.Refusal.TheVariants.{NoTransaction, LevelTooDeep}
use Rattle.collation.specs.Limits.{most_levels}
use Rattle.lock_name.specs.declared.lock.LockCommand.{LockCommand}
use Rattle.lock_name.specs.Locks.{lock_refusal, lock_reply}
use Rattle.command.specs.declared.access.DataCommand.{DataCommand}
use Rattle.command.specs.declared.access.Answer.{Answer}
use Rattle.command.specs.declared.request.Command.{Command}
use Rattle.command.specs.declared.request.Command.TheVariants.{Access, Lock as lock_command, Start, Commit, Rollback, Restart, Level, Restarts, Halt}
use Rattle.command.specs.declared.request.Reply.{Reply}
use Rattle.command.specs.declared.request.Reply.TheVariants.{Answered, Finished, Had, Count, AtLevel, Committed as committed_reply, Restarted as restarted_reply, Refused}
use Rattle.command.specs.Data.{data_refusal, data_reply}
use Rattle.globals.specs.Answering.{early_refusal}
use Rattle.journal.specs.declared.unit.Unit.{Unit as JournalUnit}
use Rattle.journal.specs.declared.unit.Unit.TheVariants.{Lone}
use Rattle.journal.specs.History.{initial, after}
use Rattle.journal.specs.Kept.{HasNoRoom}
use Rattle.serial.specs.Machine.{told_had}
use Rattle.validate_commit.specs.Verdicts.{IsCauseAtCommit}
use Rattle.job_core.specs.Causes.{IsCauseOf}
use Rattle.job_core.specs.Common.{IsCauseOfLock}
use Rattle.job_core.specs.Sessions.{Session as JobSession, at_level, IsAnsweredOrRefused}
use Rattle.pin_board.specs.Slips.{IsBeginning}
use Rattle.shared_engine.specs.Sessions.{Held, held, knowing, rolled_back, and_receipt, begun_anew, HasBegun}
use Rattle.shared_engine.specs.Engines.{HasEnded, gone_back, lock_unit, after_try}
use Rattle.shared_engine.specs.declared.locked.Ended.TheVariants.{Committed}
use Rattle.shared_engine.specs.declared.serial_run.SerialRun.{SerialRun}
use Rattle.shared_engine.specs.declared.serial_run.SerialRun.TheVariants.{Done, Blocked}

-- the reply to a command that was done with this answer, or refused
abbrev pub said : {A : Type 0} → (A → Reply) → Result A Refusal → Reply
said reply (Ok a) = reply a
said reply (Err refusal) = Refused refusal

-- nothing has changed
abbrev pub AreSame : List JournalUnit → List JournalUnit → Held → Held → Type 0
AreSame units more old new = (more ≡ units) × (new ≡ old)

-- nothing has changed but that the session has seen all units
abbrev pub HasSeen : List JournalUnit → List JournalUnit → Held → Held → Type 0
HasSeen units more old new = (more ≡ units) × (new ≡ knowing units old)

-- a data command outside a transaction; no want of memory hides a rule that is looked at before
abbrev pub IsLone : DataCommand → Result Answer Refusal → List JournalUnit → List JournalUnit → Held → Held → Type 0
IsLone command (Ok answer) units more old new =
    ((answer ≡ data_reply command (after units initial).map) × (data_refusal command (after units initial).map ≡ None))
    × ((more ≡ units ++ Lone old.state.work.job command answer ∷ []) × (new ≡ and_receipt units (Lone old.state.work.job command answer) old))
IsLone command (Err refusal) units more old new =
    (IsCauseOf refusal command (after units initial).map (length units) × ((rule : Refusal) → early_refusal command ≡ Some rule → IsErrOf {T = Answer} (Err refusal) rule))
    × HasSeen units more old new

-- a data command inside one, which sees the map of its start and its own commands; the session has then seen all units
abbrev pub IsReadAt : Option (List JournalUnit) → DataCommand → Result Answer Refusal → JobSession → JobSession → Type 0
IsReadAt None command result old new = ⊥
IsReadAt (Some base) command result old new = IsAnsweredOrRefused command result (after base initial).map old new

abbrev pub IsInside : DataCommand → Result Answer Refusal → List JournalUnit → List JournalUnit → Held → Held → Type 0
IsInside command result units more old new =
    IsReadAt old.start command result old.state new.state
    × ((more ≡ units) × ((new.start ≡ old.start) × ((new.receipts ≡ old.receipts) × ((new.others ≡ old.others) × (new.seen ≡ units)))))

-- one try of a LOCK
abbrev pub IsTried : LockCommand → Result Bool Refusal → List JournalUnit → List JournalUnit → Held → Held → Type 0
IsTried command (Ok had) units more old new =
    ((had ≡ lock_reply old.state.work.job command (after units initial).locks) × (lock_refusal old.state.work.job command (after units initial).locks ≡ None))
    × ((more ≡ units ++ lock_unit old.state command had ∷ []) × (new ≡ after_try units command had old))
IsTried command (Err refusal) units more old new = IsCauseOfLock refusal old.state.work.job command units × HasSeen units more old new

-- a try of a LOCK, on a journal that goes on from what the session had seen
abbrev pub WasTried : LockCommand → Result Bool Refusal → Held → Held → Type 0
WasTried command result old new = (units : List JournalUnit) × IsBeginning units old.seen × IsTried command result units new.seen old new

-- a later try ended so, behind a first in vain
abbrev pub WasTriedAgain : LockCommand → Result Bool Refusal → Held → Held → Type 0
WasTriedAgain command result old new = (middle : Held) × WasTried command (Ok false) old middle × WasTried command result middle new

-- a LOCK has its names, at the first try or at a later one
abbrev pub HasItsNames : LockCommand → Held → Held → Type 0
HasItsNames command old new = WasTried command (Ok true) old new ⊎ WasTriedAgain command (Ok true) old new

-- it was tried in vain
abbrev pub WasBlocked : LockCommand → Held → Held → Type 0
WasBlocked command old new = WasTried command (Ok false) old new

-- it was refused, at the first try or at a later one
abbrev pub WasRefused : LockCommand → Refusal → Held → Held → Type 0
WasRefused command refusal old new = WasTried command (Err refusal) old new ⊎ WasTriedAgain command (Err refusal) old new

-- the outermost TSTART: the transaction begins on all units, and is never refused
abbrev pub IsOpened : Result ℕ Refusal → List JournalUnit → List JournalUnit → Held → Held → Type 0
IsOpened (Ok level) units more old new = (level ≡ 1) × ((more ≡ units) × HasBegun units old new)
IsOpened (Err refusal) units more old new = ⊥

-- a TSTART within a transaction
abbrev pub IsDeeper : Result ℕ Refusal → List JournalUnit → List JournalUnit → Held → Held → Type 0
IsDeeper (Ok level) units more old new = ((level ≡ old.state.level + 1) × (old.state.level < most_levels)) × ((more ≡ units) × (new ≡ held (at_level level old.state) old.start old.receipts old.others old.seen))
IsDeeper (Err refusal) units more old new = ((refusal ≡ LevelTooDeep) × (most_levels ≤ old.state.level)) × AreSame units more old new

-- TCOMMIT, TROLLBACK or TRESTART without a transaction
abbrev pub IsNone : {A : Type 0} → Result A Refusal → List JournalUnit → List JournalUnit → Held → Held → Type 0
IsNone result units more old new = (result ≡ Err NoTransaction) × AreSame units more old new

-- the outermost TCOMMIT: the transaction is a unit, and never begins anew
abbrev pub IsCommitted : Result Reply Refusal → List JournalUnit → List JournalUnit → Held → Held → Type 0
IsCommitted (Ok reply) units more old new = (reply ≡ committed_reply) × HasEnded Committed units more old new
IsCommitted (Err refusal) units more old new = IsCauseAtCommit refusal old.state.work units × HasSeen units more old new

-- a TCOMMIT within a transaction
abbrev pub IsLower : Result Reply Refusal → List JournalUnit → List JournalUnit → Held → Held → Type 0
IsLower result units more old new = (result ≡ Ok (AtLevel (old.state.level - 1))) × ((more ≡ units) × (new ≡ held (at_level (old.state.level - 1) old.state) old.start old.receipts old.others old.seen))

-- TROLLBACK of a transaction
abbrev pub IsRolledBack : Result (Unit {0}) Refusal → List JournalUnit → List JournalUnit → Held → Held → Type 0
IsRolledBack (Ok done) units more old new = (more ≡ gone_back old.state units) × (new ≡ rolled_back more old)
IsRolledBack (Err refusal) units more old new = (HasNoRoom refusal 1 (length units) × (old.state.took_lock ≡ true)) × HasSeen units more old new

-- TRESTART of a transaction
abbrev pub IsRestarted : Result ℕ Refusal → List JournalUnit → List JournalUnit → Held → Held → Type 0
IsRestarted (Ok restarts) units more old new = (restarts ≡ new.state.restarts) × ((more ≡ gone_back old.state units) × (new ≡ begun_anew more old))
IsRestarted (Err refusal) units more old new = (HasNoRoom refusal 1 (length units) × (old.state.took_lock ≡ true)) × HasSeen units more old new

-- a command of the block was done, or refused with its cause, after which nothing has changed
abbrev pub HasDone : Command → Reply → List JournalUnit → List JournalUnit → Held → Held → Type 0
HasDone (Access command) reply units more old new =
    (result : Result Answer Refusal) × (reply ≡ said Answered result) × (old.state.level ≡ 0 → IsLone command result units more old new) × (1 ≤ old.state.level → IsInside command result units more old new)
HasDone (lock_command command) reply units more old new = (result : Result Bool Refusal) × (reply ≡ said (told_had command) result) × IsTried command result units more old new
HasDone Start reply units more old new =
    (result : Result ℕ Refusal) × (reply ≡ said AtLevel result) × (old.state.level ≡ 0 → IsOpened result units more old new) × (1 ≤ old.state.level → IsDeeper result units more old new)
HasDone Commit reply units more old new =
    (result : Result Reply Refusal) × (reply ≡ said (λ r. r) result) × (old.state.level ≡ 0 → IsNone result units more old new)
    × (old.state.level ≡ 1 → IsCommitted result units more old new) × (1 < old.state.level → IsLower result units more old new)
HasDone Rollback reply units more old new =
    (result : Result (Unit {0}) Refusal) × (reply ≡ said (λ d. Finished) result) × (old.state.level ≡ 0 → IsNone result units more old new) × (1 ≤ old.state.level → IsRolledBack result units more old new)
HasDone Restart reply units more old new =
    (result : Result ℕ Refusal) × (reply ≡ said restarted_reply result) × (old.state.level ≡ 0 → IsNone result units more old new) × (1 ≤ old.state.level → IsRestarted result units more old new)
HasDone Level reply units more old new = (reply ≡ Count old.state.level) × AreSame units more old new
HasDone Restarts reply units more old new = (reply ≡ Count old.state.restarts) × AreSame units more old new
HasDone Halt reply units more old new = ⊥

-- the commands were done in order, each with its reply, and nobody else did anything in between
abbrev pub AreDone : List Command → List Reply → List JournalUnit → List JournalUnit → Held → Held → Type 0
AreDone [] [] units more old new = AreSame units more old new
AreDone [] (reply ∷ replies) units more old new = ⊥
AreDone (command ∷ commands) [] units more old new = ⊥
AreDone (command ∷ commands) (reply ∷ replies) units more old new =
    (between : List JournalUnit) × (middle : Held) × HasDone command reply units between old middle × AreDone commands replies between more middle new

-- whether the reply says that a LOCK was blocked which has to have its names
abbrev pub is_blocked : Bool → Reply → Bool
is_blocked true (Had had) = not had
is_blocked must reply = false

-- whether a LOCK at this place of a block has to have its names
abbrev pub must_in : List Bool → ℕ → Bool
must_in musts place = unwrap_or (slice_get musts place) false

-- no reply says so
abbrev pub AreHad : List Bool → List Reply → Type 0
AreHad [] replies = ⊤
AreHad (must ∷ musts) [] = ⊤
AreHad (must ∷ musts) (reply ∷ replies) = (is_blocked must reply ≡ false) × AreHad musts replies

-- the commands up to this place were done, and those behind it weren't: there a LOCK was blocked that has to have its names
pub record IsCut (musts : List Bool) (place : ℕ) (block : List Command) (units more : List JournalUnit) (old new : Held) : Type 0 where
  pub front : List Command
  pub back : List Command
  pub before : List Reply
  pub last : Reply
  pub split : block ≡ front ++ back
  pub at : length before ≡ place
  pub done : AreDone front (before ++ last ∷ []) units more old new
  pub blocked : is_blocked (must_in musts place) last ≡ true

-- what came of a block: all was done, and no LOCK was blocked that has to have its names; or one was, which is the last
abbrev pub HasCome : List Bool → List Command → SerialRun → List JournalUnit → List JournalUnit → Held → Held → Type 0
HasCome musts block (Done replies) units more old new = AreDone block replies.items units more old new × AreHad musts replies.items
HasCome musts block (Blocked place) units more old new = IsCut musts place block units more old new

-- a TCOMMIT that isn't answered that it begins anew
abbrev pub IsNoRestart : Command → Reply → Type 0
IsNoRestart command reply = command ≡ Commit → (n : ℕ) → reply ≢ restarted_reply n

-- no TCOMMIT of a block that was done is answered that it begins anew
abbrev pub NoneRestarts : List Command → List Reply → Type 0
NoneRestarts [] replies = ⊤
NoneRestarts (command ∷ commands) [] = ⊤
NoneRestarts (command ∷ commands) (reply ∷ replies) = IsNoRestart command reply × NoneRestarts commands replies

-- the same of what came of a block
abbrev pub NoneBeganAnew : List Command → SerialRun → Type 0
NoneBeganAnew block (Done replies) = NoneRestarts block replies.items
NoneBeganAnew block (Blocked place) = ⊤
