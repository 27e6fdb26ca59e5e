-- What the calls of a session answer and leave.
-- Read IsStep, then IsCall: each call cites it with its command, and with what it tells of the reply.
use Rattle.std.specs.Prelude.{◌≡◌, ◌⊎◌, ◌≤◌, ℕ, Bool, true, false, List, [], Option, None, Some, Result, Ok, Err}
use Rattle.refusal.specs.declared.Refusal.{Refusal}
use Rattle.refusal.specs.declared.Refusal.TheVariants.{BadJob, OutOfMemory}
use Rattle.collation.specs.Limits.{most_jobs}
use Rattle.lock_name.specs.declared.lock.LockCommand.{LockCommand}
use Rattle.command.specs.declared.request.Command.{Command}
use Rattle.journal.specs.declared.unit.Unit.{Unit as JournalUnit}
use Rattle.job_core.specs.Sessions.{idle}
use Rattle.embedded.specs.declared.engine.Answered.{Answered}
use Rattle.embedded.specs.declared.outcome.Outcome.{Outcome}
use Rattle.embedded.specs.declared.outcome.Outcome.TheVariants.{Done, Refused, NoEngine}
use Rattle.hub.specs.declared.hub.Busy.{Busy}
use Rattle.shared_engine.specs.Named.{SessionAt}
use Rattle.shared_engine.specs.Sessions.{Held, held}
use Rattle.shared_engine.specs.Blocks.{WasTried}
use Rattle.typed_calls.specs.Typed.{IsWithin}
use Rattle.session_calls.specs.Steps.{HasStepped, NeedsTurn}
use Rattle.session_calls.specs.declared.seat.Seat.{Seat}

-- this is done with the session of a seat, which is of the same database still
pub record IsOnSession (before after : Seat) (Does : Held → Held → Type 0) : Type 0 where
  pub old : SessionAt
  pub new : SessionAt
  pub was : before.session ≡ Some old
  pub is : after.session ≡ Some new
  pub table : new.table ≡ old.table
  pub hub : after.hub ≡ before.hub
  pub done : Does old.held new.held

-- this reply of the session's job is kept, and the command did this
pub record IsReplied (command : Command) (kept : Option Answered) (old new : Held) : Type 0 where
  pub last : Answered
  pub is_kept : kept ≡ Some last
  pub by : last.job ≡ Some old.state.work.job
  pub done : HasStepped command last.reply old new

-- the command was done on the session, and its reply is kept
abbrev pub IsStep : Command → Seat → Seat → Type 0
IsStep command before after = IsOnSession before after (λ old new. IsReplied command after.last old new)

-- refused for this cause before the step, and nothing has changed
pub record IsRefusedBefore (IsCause : Refusal → Type 0) (before after : Seat) (outcome : Outcome) : Type 0 where
  pub refusal : Refusal
  pub cause : IsCause refusal
  pub left : after ≡ before
  pub told : outcome ≡ Refused refusal

-- what a command that is made already is refused for before its step: nothing
abbrev pub IsNoCause : Refusal → Type 0
IsNoCause refusal = ⊥

-- the seat has no session
abbrev pub HasNone : Seat → Seat → Outcome → Type 0
HasNone before after outcome = (before.session ≡ None) × (after ≡ before) × (outcome ≡ NoEngine)

-- the seat has a session, but others are at what all share: nothing has changed
abbrev pub IsKeptOut : Seat → Seat → Type 0
IsKeptOut before after = (before.session ≡ None → ⊥) × (after ≡ before)

-- the seat has a session, whose command needs a turn at what all share, but others are at that: nothing has changed
pub record IsWaiting (command : Command) (before after : Seat) : Type 0 where
  pub session : SessionAt
  pub there : before.session ≡ Some session
  pub turn : NeedsTurn command session.held
  pub left : after ≡ before

-- the command was done, where there is a session; or there is none, or others are at what it needs: then nothing has changed
abbrev pub IsStepOrNone : Command → Seat → Seat → Result Bool Busy → Type 0
IsStepOrNone command before after (Ok true) = IsStep command before after
IsStepOrNone command before after (Ok false) = (before.session ≡ None) × (after ≡ before)
IsStepOrNone command before after (Err busy) = IsWaiting command before after

-- the command was done within its limits, and this is told of its reply; or it was refused before, or there is no session; or it is within its
-- limits, and others are at what it needs: then nothing has changed, and this is left
abbrev pub IsCall : (Refusal → Type 0) → Command → (Option Answered → Outcome → Type 0) → Type 0 → Seat → Seat → Result Outcome Busy → Type 0
IsCall IsCause command Tells Left before after (Ok outcome) =
    (IsStep command before after × Tells after.last outcome × IsWithin IsCause) ⊎ ((IsRefusedBefore IsCause before after outcome ⊎ HasNone before after outcome) × Left)
IsCall IsCause command Tells Left before after (Err busy) = IsWaiting command before after × IsWithin IsCause × Left

-- one more try of a LOCK: it has its names; or it hasn't, and nothing was done; or it was refused
abbrev pub HasTriedAgain : LockCommand → ℕ → Outcome → Held → Held → Type 0
HasTriedAgain command had outcome old new =
    ((had ≡ 1) × (outcome ≡ Done) × WasTried command (Ok true) old new)
    ⊎ (((had ≡ 0) × (outcome ≡ Done) × (new ≡ old))
    ⊎ ((refusal : Refusal) × (had ≡ 0) × (outcome ≡ Refused refusal) × WasTried command (Err refusal) old new))

-- the same of a seat, whose last reply stays
abbrev pub IsAgain : LockCommand → ℕ → Seat → Seat → Result Outcome Busy → Type 0
IsAgain command had before after (Ok outcome) =
    (IsOnSession before after (HasTriedAgain command had outcome) × (after.last ≡ before.last)) ⊎ (HasNone before after outcome × (had ≡ 0))
IsAgain command had before after (Err busy) = IsKeptOut before after × (had ≡ 0)

-- ---- a session begins

-- a session of this job, in which nothing was done, of the board of the seat's hub
pub record IsOpened (job : ℕ) (seat : Seat) : Type 0 where
  pub session : SessionAt
  pub units : List JournalUnit
  pub there : seat.session ≡ Some session
  pub table : session.table ≡ seat.hub.value.board.table
  pub held_by : session.held ≡ held (idle job) None [] [] units
  pub last : seat.last ≡ None

-- the job has a session, or isn't 1 to 4,096; or memory was refused
abbrev pub IsCauseOfOpening : Refusal → Type 0
IsCauseOfOpening refusal = (refusal ≡ BadJob) ⊎ (refusal ≡ OutOfMemory)

-- a session of this job was begun in the seat's database; or it was refused, or it is a job's number and others are at what all share: then
-- nothing has changed
abbrev pub IsBegun : ℕ → Seat → Seat → Result (Result (Unit {0}) Refusal) Busy → Type 0
IsBegun job before after (Ok (Ok done)) = (after.hub ≡ before.hub) × IsOpened job after
IsBegun job before after (Ok (Err refusal)) = (after ≡ before) × IsCauseOfOpening refusal
IsBegun job before after (Err busy) = (1 ≤ job) × (job ≤ most_jobs) × (after ≡ before)
