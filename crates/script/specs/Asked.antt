-- A line read as far as its sentence: the references, lock names and value stand in drafts.
use Rattle.std.specs.Prelude.{◌≡◌, ℕ, List, None, Option, Some, Result, Ok, Err}
use Rattle.collation.specs.Reference.{Reference, Spot}
use Rattle.collation.specs.declared.direction.Direction.{Direction}
use Rattle.command.specs.declared.request.Command.{Command}
use Rattle.command.specs.declared.request.Command.TheVariants.{Access}
use Rattle.command.specs.declared.access.Extent.{Extent}
use Rattle.command.specs.declared.access.DataCommand.{DataCommand}
use Rattle.command.specs.declared.access.DataCommand.TheVariants.{Set, Kill, Look}
use Rattle.command.specs.declared.access.Look.TheVariants.{Get, Order}
use Rattle.script.specs.declared.line.LineFault.{LineFault}
use Rattle.script.specs.declared.sentence.Drafts.{Drafts}
use Rattle.script.specs.declared.sentence.Sentence.{Sentence}
use Rattle.script.specs.Line.{HasOperands, IsReading, IsRefusalOf, job_of_line, spelled_by}
use Rattle.script.specs.Sentence.{IsOfOperands, Spells}

-- the drafts and a sentence are those of a line, and this is its job
pub record IsAsked (line : List ℕ) (drafts : Drafts) (job : ℕ) (sentence : Sentence) : Type 0 where
  pub command : Command
  pub read : spelled_by line ≡ Some command
  pub said : Spells drafts sentence command
  pub owner : job_of_line line ≡ Some job
  pub operands : IsOfOperands sentence → HasOperands line

-- the first half of a reading: the line has a sentence and a job, or is refused for its grammar or its job
abbrev pub IsRequest : List ℕ → Drafts → Result (ℕ × Sentence) LineFault → Type 0
IsRequest line drafts (Ok r) = IsAsked line drafts r.0 r.1
IsRequest line drafts (Err fault) = IsReading line (Err fault)

-- the second half: the command is what the line asks, or the fault is the line's
abbrev pub IsFinished : List ℕ → ℕ → Result Command LineFault → Type 0
IsFinished line job (Ok command) = IsReading line (Ok (job, command))
IsFinished line job (Err fault) = IsReading line (Err fault)

-- the same of a $GET without a default, whose key is all that is left to read
abbrev pub IsKeyOfGet : List ℕ → ℕ → Result Reference LineFault → Type 0
IsKeyOfGet line job (Ok key) = IsReading line (Ok (job, Access (Look (Get key None))))
IsKeyOfGet line job (Err fault) = IsReading line (Err fault)

-- and of a SET, whose value is at its place
abbrev pub IsKeyOfSet : List ℕ → ℕ → List ℕ → Result Reference LineFault → Type 0
IsKeyOfSet line job value (Ok key) = IsReading line (Ok (job, Access (Set key value)))
IsKeyOfSet line job value (Err fault) = IsReading line (Err fault)

-- of a KILL, KVALUE or KSUBSCRIPTS
abbrev pub IsKeyOfKill : List ℕ → ℕ → Extent → Result Reference LineFault → Type 0
IsKeyOfKill line job extent (Ok key) = IsReading line (Ok (job, Access (Kill key extent)))
IsKeyOfKill line job extent (Err fault) = IsReading line (Err fault)

-- and of a $ORDER, of which the place is left
abbrev pub IsPlaceOfOrder : List ℕ → ℕ → Direction → Result Spot LineFault → Type 0
IsPlaceOfOrder line job direction (Ok place) = IsReading line (Ok (job, Access (Look (Order place direction))))
IsPlaceOfOrder line job direction (Err fault) = IsReading line (Err fault)
