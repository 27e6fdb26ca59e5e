-- What holds of each machine that ran from nothing.
use Rattle.std.specs.Prelude.{◌≡◌, ◌≤◌, ℕ, List, length, Some}
use Rattle.journal.specs.declared.unit.Unit.{Unit as JournalUnit}
use Rattle.journal.specs.History.{initial, AreRight, IsLegal}
use Rattle.journal.specs.Story.{Transaction, Machine, transaction_of}
use Rattle.serial.specs.Machine.{state_at}

-- a transaction began with one of these units or after the last, and its answers are those on what it sees
pub record IsSound (units : List JournalUnit) (t : Transaction) : Type 0 where
  pub begun : t.start ≤ length units
  pub right : AreRight t.exchanges (state_at t.start units).map

-- the units are legal, and the open transactions sound
pub record IsGood (s : Machine) : Type 0 where
  pub legal : IsLegal s.units initial
  pub sound : (job : ℕ) (t : Transaction) → transaction_of job s ≡ Some t → IsSound s.units t
