-- $GETs that were gathered, and are written in one go.
use Rattle.std.specs.Prelude.{◌≡◌, ℕ, List, None}
use Rattle.std.specs.List.{All}
use Rattle.collation.specs.Reference.{Reference}
use Rattle.collation.specs.Database.{Database}
use Rattle.command.specs.Data.{data_reply}
use Rattle.command.specs.declared.access.DataCommand.TheVariants.{Look}
use Rattle.command.specs.declared.access.Look.TheVariants.{Get}
use Rattle.command.specs.declared.access.Answer.TheVariants.{Value}
use Rattle.journal.specs.declared.unit.Unit.{Unit as JournalUnit}
use Rattle.journal.specs.Gathered.{got}

-- the unit is a $GET, and was answered what this database answers
abbrev pub IsRightGet : Database → JournalUnit → Type 0
IsRightGet m unit = (job : ℕ) × (key : Reference) × (value : List ℕ) × (unit ≡ got job key value) × (Value value ≡ data_reply (Look (Get key None)) m)

-- each of them is
abbrev pub AreRightGets : Database → List JournalUnit → Type 0
AreRightGets m units = All (IsRightGet m) units
