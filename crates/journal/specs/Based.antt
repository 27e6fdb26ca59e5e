-- What is kept of the units that are dropped.
use Rattle.std.specs.Prelude.{◌≡◌, ℕ, List, [], ◌∷◌, length, refl}
use Rattle.std.specs.FinMap as finmap
use Rattle.std.specs.Coded.{Coded, code_by, coded×, coded_ℕ, coded_list}
use Rattle.collation.specs.Reference.{Reference}
use Rattle.collation.specs.Database.{Database, database_code}
use Rattle.lock_name.specs.Locks.{LockState, locks_after, locks_after_commit, locks_after_back, locks_after_end}
use Rattle.lock_table.specs.Codes.{lock_state_code}
use Rattle.journal.specs.declared.unit.Unit.{Unit as JournalUnit}
use Rattle.journal.specs.declared.unit.Unit.TheVariants.{Lone, Whole, Lock, Back, End}
use Rattle.journal.specs.History.{State, initial, after}
use Rattle.journal.specs.Counting.{Tallies, AreTallies, counted_unit}

-- how many units are dropped, the state that they leave, and how many of them each job has
pub record Based : Type 0 where
  pub number : ℕ
  pub state : State
  pub tallies : Tallies

abbrev pub based_code : Coded Based
based_code =
    code_by (ℕ × (Database × (LockState × Tallies))) (coded× coded_ℕ (coded× database_code (coded× lock_state_code (coded_list coded_ℕ))))
    (λ b. (b.number, (b.state.map, (b.state.locks, b.tallies)))) (λ p. record { number = p.0; state = record { map = p.1.0; locks = p.1.1.0 }; tallies = p.1.1.1 }) (λ _. refl)

-- it is what these units leave
pub record IsBaseOf (b : Based) (units : List JournalUnit) : Type 0 where
  pub number : b.number ≡ length units
  pub state : b.state ≡ after units initial
  pub tallies : AreTallies b.tallies units

-- its database and its locks
abbrev pub map_in : Based → Database
map_in b = b.state.map

abbrev pub locks_in : Based → LockState
locks_in b = b.state.locks

-- the database of these references and values
abbrev pub database_of : List (Reference × List ℕ) → Database
database_of nodes = finmap.from_entries nodes

-- ---- the lock state, unit by unit

abbrev pub locks_of_unit : JournalUnit → LockState → LockState
locks_of_unit (Lone job command answer) s = s
locks_of_unit (Whole job exchanges) s = locks_after_commit job s
locks_of_unit (Lock job inside command had) s = locks_after job inside command s
locks_of_unit (Back job) s = locks_after_back job s
locks_of_unit (End job) s = locks_after_end job s

-- the locks that units leave, each in its turn
abbrev pub locks_on : List JournalUnit → LockState → LockState
locks_on [] s = s
locks_on (u ∷ us) s = locks_on us (locks_of_unit u s)

-- locks and tallies are moved on by the next unit
pub record HasPassed (locks new_locks : LockState) (tallies new_tallies : Tallies) (us new : List JournalUnit) : Type 0 where
  pub unit : JournalUnit
  pub next : us ≡ unit ∷ new
  pub locks_are : new_locks ≡ locks_of_unit unit locks
  pub tallies_are : new_tallies ≡ counted_unit unit tallies
