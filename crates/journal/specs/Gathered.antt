-- $GETs that are gathered, to be units of a journal in one go.
use Rattle.std.specs.Prelude.{◌≡◌, ℕ, List, [], ◌∷◌, None}
use Rattle.std.specs.List.{All}
use Rattle.collation.specs.Reference.{Reference}
use Rattle.command.specs.declared.access.DataCommand.TheVariants.{Look}
use Rattle.command.specs.declared.access.Look.TheVariants.{Get}
use Rattle.command.specs.declared.access.Answer.TheVariants.{Value}
use Rattle.journal.specs.declared.unit.Unit.{Unit as JournalUnit}
use Rattle.journal.specs.declared.unit.Unit.TheVariants.{Lone}

-- a job's $GET without a default outside a transaction, and what it was answered
abbrev pub got : ℕ → Reference → List ℕ → JournalUnit
got job key value = Lone job (Look (Get key None)) (Value value)

-- the unit is such a $GET
abbrev pub IsGetOf : ℕ → JournalUnit → Type 0
IsGetOf job unit = (key : Reference) × (value : List ℕ) × (unit ≡ got job key value)

-- $GETs of one job, as units
pub record Gathered : Type 0 where
  pub job : ℕ
  pub units : List JournalUnit

-- all of them are its
abbrev pub AreGets : Gathered → Type 0
AreGets g = All (IsGetOf g.job) g.units
