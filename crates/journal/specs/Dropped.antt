-- The units that a journal has dropped: no bytes stand for them, and only contracts speak of them.
use Rattle.std.specs.Prelude.{ℕ, List, [], ◌∷◌, ◌++◌, take, Option, None, Some}
use Rattle.journal.specs.declared.unit.Unit.{Unit as JournalUnit}
use Rattle.journal.specs.Log.{Logged}

-- the units of a log
abbrev pub units_of : Logged → List JournalUnit
units_of l = l.units

-- lists of units, the newest first: those before, and the first so many of a log; or those of a database that was taken over
abbrev pub lists_of : ℕ → Option (List (List JournalUnit)) → Option (List JournalUnit) → Option (List JournalUnit) → List (List JournalUnit)
lists_of count None us None = []
lists_of count None us (Some vs) = vs ∷ []
lists_of count (Some before) None vs = [] ∷ before
lists_of count (Some before) (Some us) vs = take count us ∷ before

-- all of them in their order
abbrev pub joined : List (List JournalUnit) → List JournalUnit
joined [] = []
joined (us ∷ before) = joined before ++ us
