-- What a thread that reads hands on, and what a run on it writes.
use Rattle.std.specs.Prelude.{◌≡◌, ◌⊎◌, ℕ, Bool, true, List, ◌++◌, Option, IfSome}
use Rattle.std.specs.declared.alloc.Global.{Global}
use Rattle.rtrb.specs.declared.producer.Producer.{Producer}
use Rattle.rtrb.specs.declared.AnyItems.{AnyItems}
use Rattle.rtrb.specs.Ends.{SameRing}
use Rattle.rtrb.specs.Ring.{sent}
use Rattle.journal.specs.Story.{Machine}
use Rattle.script_run.specs.Lines.{lines_of}
use Rattle.script_run.specs.declared.outcome.Outcome.{Outcome}
use Rattle.live_server.specs.Desks.{DeskShown}
use Rattle.live_server.specs.Live.{Wrote, IsBegun, HasAnswered, HasRead}
use Rattle.live_server.specs.declared.reading.Sent.{Sent}

-- the bytes are a front of the others
abbrev pub IsFrontOf : List ℕ → List ℕ → Type 0
IsFrontOf bytes all = (rest : List ℕ) × (bytes ++ rest ≡ all)

-- what a thread has put in, through the end of a ring that it was given: a front of what the reader had, and where it says so all
pub record HasSent (had : Option (List ℕ)) (ring : Producer ℕ Global AnyItems) (put : Sent) : Type 0 where
  pub same : SameRing ring.end put.ring.end
  pub all : put.is_all ≡ true → IfSome had (λ bytes. sent put.ring ≡ bytes)
  pub front : IfSome had (IsFrontOf (sent put.ring))

-- a run that broke off wrote a beginning, for a front of the bytes
pub record HasBegun (start : Machine) (listed : Bool) (bytes : List ℕ) (old new : Option (List ℕ)) : Type 0 where
  pub front : List ℕ
  pub of : IsFrontOf front bytes
  pub begun : IsBegun start listed front old new

-- so a run to which a read failed, for a front of the bytes: it stopped behind whole replies, or all was taken and the whole text written
pub record HasReadFront (start now : Machine) (desks : List DeskShown) (listed : Bool) (bytes : List ℕ) (old new : Option (List ℕ)) : Type 0 where
  pub front : List ℕ
  pub of : IsFrontOf front bytes
  pub read : HasRead start now desks front old new ⊎ ((outcome : Outcome) × Wrote start listed front outcome old new)

-- and one whose last jobs wait for ever
pub record HasAnsweredFront (start now : Machine) (desks : List DeskShown) (bytes : List ℕ) (old new : Option (List ℕ)) : Type 0 where
  pub front : List ℕ
  pub of : IsFrontOf front bytes
  pub answered : HasAnswered start now desks (lines_of front) old new
