-- What no other unit can overtake.
use Rattle.std.specs.Prelude.{◌≡◌, ◌≤◌, ℕ, Bool, true, false, List, [], ◌∷◌, drop}
use Rattle.journal.specs.declared.unit.Unit.{Unit as JournalUnit}
use Rattle.collation.specs.Reference.{Reference}
use Rattle.command.specs.declared.access.DataCommand.{DataCommand}
use Rattle.command.specs.declared.access.DataCommand.TheVariants.{Set, Kill, Merge, Increment, Look}
use Rattle.journal.specs.declared.unit.Exchange.{Exchange}
use Rattle.journal.specs.Touching.{any_touched}
use Rattle.serial.specs.Machine.{state_at}
use Rattle.shared_engine.specs.Sessions.{Held}

-- SET and the kills read nothing
abbrev pub is_write : DataCommand → Bool
is_write (Set r v) = true
is_write (Kill r extent) = true
is_write (Merge a b) = false
is_write (Increment r n) = false
is_write (Look look) = false

-- the transaction has done SETs and kills alone
abbrev pub AreWrites : List Exchange → Type 0
AreWrites [] = Unit {0}
AreWrites (e ∷ es) = (is_write e.command ≡ true) × AreWrites es

-- no unit behind so many touches anything
abbrev pub IsQuietSince : ℕ → List JournalUnit → Type 0
IsQuietSince start units = (test : Reference → Bool) → any_touched test (drop start units) (state_at start units) ≡ false

-- where a transaction is open, no unit since its start touches anything
pub record IsAlone (s : Held) (units : List JournalUnit) : Type 0 where
  pub quiet : 1 ≤ s.state.level → IsQuietSince s.state.work.start units
