-- How a session ends, and what keeps memory small.
-- Read IsHalt, then IsCollected and IsCheckpointed.
use Rattle.std.specs.Prelude.{◌≡◌, ◌≤◌, ◌==◌, ◌⊎◌, ℕ, if◌then◌else◌, List, length, None, Some, Result, Ok, Err}
use Rattle.refusal.specs.declared.Refusal.{Refusal}
use Rattle.refusal.specs.declared.Refusal.TheVariants.{OutOfMemory}
use Rattle.journal.specs.Kept.{HasNoNumber}
use Rattle.journal.specs.declared.unit.Unit.{Unit as JournalUnit}
use Rattle.embedded.specs.declared.outcome.Outcome.{Outcome}
use Rattle.embedded.specs.declared.outcome.Outcome.TheVariants.{Done, Refused, AtEnd}
use Rattle.hub.specs.declared.hub.Busy.{Busy}
use Rattle.pin_board.specs.Slips.{IsBeginning}
use Rattle.shared_engine.specs.Named.{PassAt, SessionAt}
use Rattle.shared_engine.specs.Sessions.{Held, halted, knowing}
use Rattle.session_calls.specs.Calls.{HasNone, IsKeptOut, IsOnSession}
use Rattle.session_calls.specs.declared.seat.Seat.{Seat}

-- the journal is full: the session goes on, and has seen it
pub record IsFull (outcome : Outcome) (old new : Held) : Type 0 where
  pub refusal : Refusal
  pub cause : HasNoNumber refusal 1 (length new.seen)
  pub goes_on : IsBeginning new.seen old.seen
  pub same : new ≡ knowing new.seen old
  pub told : outcome ≡ Refused refusal

-- the session is over, and its last unit is that end, as its pass shows; the seat has none any more
pub record IsOver (before after : Seat) (pass : PassAt) : Type 0 where
  pub old : SessionAt
  pub units : List JournalUnit
  pub was : before.session ≡ Some old
  pub goes_on : IsBeginning units old.held.seen
  pub book : pass.book ≡ halted units old.held
  pub table : pass.table ≡ old.table
  pub none : after.session ≡ None
  pub hub : after.hub ≡ before.hub
  pub last : after.last ≡ before.last

-- the session goes on, and why is told; or there is none
abbrev pub IsNotOver : Seat → Seat → Outcome → Type 0
IsNotOver before after outcome = (IsOnSession before after (IsFull outcome) × (after.last ≡ before.last)) ⊎ HasNone before after outcome

-- it is over; or it isn't; or others are at what all share, and nothing has changed
abbrev pub IsHalt : Seat → Seat → Result (Result PassAt Outcome) Busy → Type 0
IsHalt before after (Ok (Ok pass)) = IsOver before after pass
IsHalt before after (Ok (Err outcome)) = IsNotOver before after outcome
IsHalt before after (Err busy) = IsKeptOut before after

-- what a turn of the collector is told as, by how many nodes it looked at
abbrev pub turn_outcome : ℕ → Outcome
turn_outcome looked = if looked == 0 then AtEnd else Done

-- some nodes were looked at, at most as many as asked for, and the outcome tells whether any was; or memory was refused
abbrev pub IsCollected : ℕ → Outcome → Type 0
IsCollected limit outcome = ((looked : ℕ) × (looked ≤ limit) × (outcome ≡ turn_outcome looked)) ⊎ (outcome ≡ Refused OutOfMemory)

-- the journal's base was moved on as far as it may be, or memory was refused
abbrev pub IsCheckpointed : Outcome → Type 0
IsCheckpointed outcome = (outcome ≡ Done) ⊎ (outcome ≡ Refused OutOfMemory)
