-- Bytes read as a unit in one way alone: as it is written. A clause of a function in `src/laws.rt`.
use Rattle.std.specs.Prelude.{◌≡◌, ℕ, ◌<◌, List, ◌++◌, All, Some}
use Rattle.journal.specs.declared.unit.Unit.{Unit as JournalUnit}
use Rattle.journal.specs.Format.{unit_bytes}
use Rattle.journal.specs.Reading.{unit_at}
use Rattle.journal.specs.Stored.{FitsUnit}

-- each number is a byte
abbrev pub AreBytes : List ℕ → Type 0
AreBytes = All (λ b. b < 256)

-- bytes that read as a unit are the bytes of that unit, and then what follows it; and the unit keeps the limits
abbrev pub UnitsAreReadExactly : Type 0
UnitsAreReadExactly = (bytes rest : List ℕ) → (u : JournalUnit) → AreBytes bytes → unit_at bytes ≡ Some (u, rest) → (bytes ≡ unit_bytes u ++ rest) × FitsUnit u
