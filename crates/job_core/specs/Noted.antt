-- References that may change from a base to an end, noted command by command.
use Rattle.std.specs.Prelude.{◌≡◌, ◌⊎◌, ℕ, false, List, ◌∷◌, fold, map}
use Rattle.std.specs.FinMap as finmap
use Rattle.std.specs.FinMap.{FinMap}
use Rattle.collation.specs.Reference.{Reference}
use Rattle.collation.specs.Order.{ref_cmp}
use Rattle.collation.specs.Database.{Database}
use Rattle.collation.specs.Changes.{Change}
use Rattle.journal.specs.declared.unit.Unit.{Unit as JournalUnit}
use Rattle.journal.specs.History.{State, after_unit}

-- the references that are noted
abbrev pub Noted : Type 0
Noted = FinMap ref_cmp (Unit {0})

-- those of these nodes are noted too
abbrev pub noted_all : List (Reference × List ℕ) → Noted → Noted
noted_all es noted = fold (λ (n : Noted) (e : Reference × List ℕ). finmap.insert n e.0 tt) noted es

-- a database between: what isn't noted is there as in the base, or in the end as in the base
abbrev pub IsBetween : Noted → Database → Database → Database → Type 0
IsBetween noted base end m = (x : Reference) → finmap.contains_key noted x ≡ false → (finmap.get m x ≡ finmap.get base x) ⊎ (finmap.get end x ≡ finmap.get base x)

-- if the first database is between, then so is the second, once more is noted
abbrev pub StaysBetween : Noted → Noted → Database → Database → Database → Database → Type 0
StaysBetween old new base end m n = IsBetween old base end m → IsBetween new base end n

-- the next unit is passed, and what it may change is noted
pub record HasPassed (old new : Noted) (base end : Database) (us rest : List JournalUnit) : Type 0 where
  pub unit : JournalUnit
  pub next : us ≡ unit ∷ rest
  pub stays : (s : State) → StaysBetween old new base end s.map (after_unit unit s).map

-- each noted reference with its value in the end
abbrev pub end_values : Noted → Database → List Change
end_values noted end = map (λ e. (e.0, finmap.get end e.0)) (finmap.entries noted)
