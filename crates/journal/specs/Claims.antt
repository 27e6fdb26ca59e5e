-- What a receipt claims.
use Rattle.std.specs.Prelude.{ℕ, List, [], ◌∷◌, unwrap_or}
use Rattle.journal.specs.declared.unit.Unit.{Unit as JournalUnit}
use Rattle.journal.specs.declared.unit.Unit.TheVariants.{End}
use Rattle.journal.specs.declared.receipts.Source.{Source}
use Rattle.journal.specs.declared.receipts.Source.TheVariants.{Prepared, First}
use Rattle.journal.specs.Kept.{Claim}

-- the unit of the first of these claims; without one the end of a session
abbrev pub first_unit : List Claim → ℕ → JournalUnit
first_unit [] job = End job
first_unit (c ∷ cs) job = c.unit

-- the unit of a receipt: the one that was prepared, or that of the first receipt left
abbrev pub unit_from : Source → ℕ → JournalUnit
unit_from (Prepared before) job = unwrap_or before.value.prepared (End job)
unit_from (First before) job = first_unit before.value job
