-- What an exported call does with the session that it is given.
-- Read told_number, IsSeatCalled, IsSeatKeyCalled, then IsHubMade, IsOpenCall and IsHaltCall.
use Rattle.std.specs.Prelude.{◌≡◌, ◌⊎◌, ◌≤◌, ℕ, ◌==◌, if◌then◌else◌, List, Option, Some, None, Result, Ok, Err}
use Rattle.std.specs.Option.{MatchOption}
use Rattle.refusal.specs.declared.Refusal.TheVariants.{BadJob, OutOfMemory}
use Rattle.collation.specs.Limits.{most_jobs}
use Rattle.collation.specs.Reference.{Reference}
use Rattle.command.specs.declared.access.Extent.{Extent}
use Rattle.command.specs.declared.access.Extent.TheVariants.{All, Value, Below}
use Rattle.lock_name.specs.declared.lock.LockCommand.TheVariants.{Release}
use Rattle.command.specs.declared.request.Command.{Command}
use Rattle.command.specs.declared.request.Command.TheVariants.{Lock, Start, Commit, Rollback, Restart, Level, Restarts}
use Rattle.typed_calls.specs.Typed.{IsValueCopied}
use Rattle.embedded.specs.declared.engine.Answered.{Answered}
use Rattle.embedded.specs.Outcomes.{outcome_number}
use Rattle.embedded.specs.declared.outcome.Outcome.{Outcome}
use Rattle.embedded.specs.declared.outcome.Outcome.TheVariants.{Done, Refused, NoEngine, EngineThere, NoKey}
use Rattle.vorgushan_c.specs.Exports.{busy_number}
use Rattle.hub.specs.declared.hub.Busy.{Busy}
use Rattle.shared_engine.specs.Named.{PassAt}
use Rattle.session_calls.specs.Calls.{IsOpened}
use Rattle.session_calls.specs.Endings.{IsNotOver, IsOver}
use Rattle.session_calls.specs.declared.seat.Seat.{Seat}

-- the number that is told: that of the outcome, or that of others at it
abbrev pub told_number : Result Outcome Busy → ℕ
told_number (Ok outcome) = outcome_number outcome
told_number (Err busy) = busy_number

-- the session is there afterwards too, the number told is that of what was answered, and the call did this
pub record IsSeatCall (before : Seat) (now : Option Seat) (number : ℕ) (Does : Seat → Seat → Result Outcome Busy → Type 0) : Type 0 where
  pub after : Seat
  pub answered : Result Outcome Busy
  pub there : now ≡ Some after
  pub told : number ≡ told_number answered
  pub done : Does before after answered

-- a call on a session does this; where none is there, it tells so, and does the other
abbrev pub IsSeatCalled : Option Seat → Option Seat → ℕ → Type 0 → (Seat → Seat → Result Outcome Busy → Type 0) → Type 0
IsSeatCalled None now number Left Does = (now ≡ None) × (number ≡ outcome_number NoEngine) × Left
IsSeatCalled (Some before) now number Left Does = IsSeatCall before now number Does

-- the same of a call on a session and a key
abbrev pub IsSeatKeyCalled : Option Seat → Option Seat → Option Reference → ℕ → Type 0 → (Reference → Seat → Seat → Result Outcome Busy → Type 0) → Type 0
IsSeatKeyCalled None now key number Left Does = (now ≡ None) × (number ≡ outcome_number NoEngine) × Left
IsSeatKeyCalled (Some before) now None number Left Does = (now ≡ Some before) × (number ≡ outcome_number NoKey) × Left
IsSeatKeyCalled (Some before) now (Some r) number Left Does = IsSeatCall before now number (Does r)

-- and of one on a session and two keys
abbrev pub IsSeatKeysCalled : Option Seat → Option Seat → Option Reference → Option Reference → ℕ → (Reference → Reference → Seat → Seat → Result Outcome Busy → Type 0) → Type 0
IsSeatKeysCalled None now key other number Does = (now ≡ None) × (number ≡ outcome_number NoEngine)
IsSeatKeysCalled (Some before) now None other number Does = (now ≡ Some before) × (number ≡ outcome_number NoKey)
IsSeatKeysCalled (Some before) now (Some r) None number Does = (now ≡ Some before) × (number ≡ outcome_number NoKey)
IsSeatKeysCalled (Some before) now (Some r) (Some x) number Does = IsSeatCall before now number (Does r x)

-- ---- a session begins and ends

-- it is there; or memory is refused for it, and none is
abbrev pub IsSeatPut : Seat → Option Seat → ℕ → Type 0
IsSeatPut made now number = ((now ≡ Some made) × (number ≡ outcome_number Done)) ⊎ ((now ≡ None) × (number ≡ outcome_number (Refused OutOfMemory)))

-- a database without a session is there
pub record IsHub (now : Option Seat) (number : ℕ) : Type 0 where
  pub made : Seat
  pub there : now ≡ Some made
  pub session : made.session ≡ None
  pub told : number ≡ outcome_number Done

-- one was made where none was; where one is it stays, and where memory is refused there is none
abbrev pub IsHubMade : Option Seat → Option Seat → ℕ → Type 0
IsHubMade None now number = IsHub now number ⊎ ((now ≡ None) × (number ≡ outcome_number (Refused OutOfMemory)))
IsHubMade (Some before) now number = (now ≡ Some before) × (number ≡ outcome_number EngineThere)

-- what has no session is ended, and a session stays
abbrev pub IsHubEnd : Option Seat → Option Seat → ℕ → Type 0
IsHubEnd None now number = (now ≡ None) × (number ≡ outcome_number NoEngine)
IsHubEnd (Some before) now number =
    MatchOption before.session ((now ≡ None) × (number ≡ outcome_number Done)) (λ s. (now ≡ Some before) × (number ≡ outcome_number EngineThere))

-- a session of this job is there, of this database, in which nothing was done
pub record IsBegunAt (job : ℕ) (hub : Seat) (now : Option Seat) (number : ℕ) : Type 0 where
  pub seat : Seat
  pub there : now ≡ Some seat
  pub same : seat.hub.value ≡ hub.hub.value
  pub opened : IsOpened job seat
  pub told : number ≡ outcome_number Done

-- it was refused, or it is a job's number and others are at it: none is there
abbrev pub IsNotBegun : ℕ → Option Seat → ℕ → Type 0
IsNotBegun job now number =
    (now ≡ None)
    × ((number ≡ outcome_number (Refused BadJob)) ⊎ ((number ≡ outcome_number (Refused OutOfMemory)) ⊎ ((1 ≤ job) × (job ≤ most_jobs) × (number ≡ busy_number))))

-- a session of this job was begun where none was; where one is it stays; where there is no database that is told
abbrev pub IsOpenCall : ℕ → Option Seat → Option Seat → Option Seat → ℕ → Type 0
IsOpenCall job None None now number = (now ≡ None) × (number ≡ outcome_number NoEngine)
IsOpenCall job (Some hub) None now number = IsBegunAt job hub now number ⊎ IsNotBegun job now number
IsOpenCall job None (Some before) now number = (now ≡ Some before) × (number ≡ outcome_number EngineThere)
IsOpenCall job (Some hub) (Some before) now number = (now ≡ Some before) × (number ≡ outcome_number EngineThere)

-- there was a session, and none is there now; or why there is one still or was none is told; or others are at it, and the session stays
abbrev pub IsHaltCall : Option Seat → Option Seat → ℕ → Type 0
IsHaltCall None now number = (now ≡ None) × (number ≡ outcome_number NoEngine)
IsHaltCall (Some before) now number =
    (((pass : PassAt) × (after : Seat) × IsOver before after pass) × (now ≡ None) × (number ≡ outcome_number Done))
    ⊎ (((after : Seat) × (outcome : Outcome) × (now ≡ Some after) × (number ≡ outcome_number outcome) × IsNotOver before after outcome)
    ⊎ ((now ≡ Some before) × (before.session ≡ None → ⊥) × (number ≡ busy_number)))

-- ---- numbers that stand for a choice

-- 0 is KILL, 1 KVALUE, and any other number KSUBSCRIPTS
abbrev pub extent_of : ℕ → Extent
extent_of n = if n == 0 then All else (if n == 1 then Value else Below)

-- 0 to 6: TSTART, TCOMMIT, TROLLBACK, TRESTART, $TLEVEL, $TRESTART, LOCK without names, which any other number is too
abbrev pub act_of : ℕ → Command
act_of n =
    if n == 0 then Start else (if n == 1 then Commit else (if n == 2 then Rollback else (if n == 3 then Restart else (if n == 4 then Level else (if n == 5 then Restarts else Lock Release)))))

-- what was not copied at first was copied, as of the last reply
abbrev pub IsCopiedAgain : Option Answered → Result Outcome Busy → List ℕ → List ℕ → ℕ → Type 0
IsCopiedAgain last (Ok outcome) old new wanted = IsValueCopied last outcome old new wanted
IsCopiedAgain last (Err busy) old new wanted = ⊥
