-- Lines that are gathered for one hold of the engine's lock. Read HasOneMore, IsGathered and HasHeld.
use Rattle.std.specs.Prelude.{◌≡◌, ◌⊎◌, ℕ, ◌≤◌, ◌-◌, Bool, List, [], ◌∷◌, ◌++◌, length, take, Option, None, Some}
use Rattle.std.specs.List.{All}
use Rattle.refusal.specs.declared.Refusal.{Refusal}
use Rattle.command.specs.declared.access.DataCommand.{DataCommand}
use Rattle.command.specs.declared.request.Command.TheVariants.{Access}
use Rattle.command.specs.declared.request.Command.{Command}
use Rattle.command.specs.declared.request.Reply.{Reply}
use Rattle.journal.specs.declared.unit.Unit.{Unit as JournalUnit}
use Rattle.pin_board.specs.Slips.{IsBeginning}
use Rattle.shared_engine.specs.Blocks.{AreDone}
use Rattle.shared_engine.specs.Holds.{Lines, lines_held, accesses, IsSet}
use Rattle.shared_engine.specs.Sessions.{Held, knowing}
use Rattle.job_scripts.specs.Blocks.{AreInFront}
use Rattle.job_scripts.specs.Lines.{lent_lines, Asks, IsRefusedAs, IsReadFor}
use Rattle.job_server.specs.declared.cursor.Line.{Line}
use Rattle.job_server.specs.declared.gathering.Asked.{Asked}
use Rattle.job_server.specs.declared.gathering.Asked.TheVariants.{Many, One}
use Rattle.job_server.specs.declared.gathering.Front.{Front}
use Rattle.job_server.specs.declared.gathering.Way.TheVariants.{Sets}

-- a hold with one line more, which is refused so
abbrev pub and_refused : Lines → Refusal → Lines
and_refused hold refusal = lines_held (hold.places ++ Some refusal ∷ []) hold.commands hold.served (hold.room - 1)

-- or with its command
abbrev pub and_command : Lines → DataCommand → Lines
and_command hold command = lines_held (hold.places ++ None ∷ []) (hold.commands ++ command ∷ []) hold.served (hold.room - 1)

-- one of the job's lines more stands in the hold: it is refused so, or asks for the last command
abbrev pub HasOneMore : ℕ → List ℕ → Lines → Lines → Type 0
HasOneMore job line old new =
    ((refusal : Refusal) × IsRefusedAs job line refusal × (new ≡ and_refused old refusal)) ⊎ ((command : DataCommand) × Asks job line (Access command) × (new ≡ and_command old command))

-- the lines of a hold stand at the front of a job's, before those of the rest
abbrev pub AreGathered : ℕ → List (List ℕ) → List (List ℕ) → Lines → Type 0
AreGathered job all rest hold = (musts : List Bool) × AreInFront job all rest hold.places (accesses hold.commands) musts

-- this line, which is accepted, and those behind it stand in a hold, none is done yet, and they are SETs where they are done as such
pub record IsGathered (job : ℕ) (line : Line) (front : Front) (hold : Lines) : Type 0 where
  pub accepted : take 1 hold.places ≡ None ∷ []
  pub fewer : length front.rest.now ≤ length line.next.lines.now
  pub gathered : AreGathered job (line.text.now ∷ lent_lines line.next.lines.now) (lent_lines front.rest.now) hold
  pub none : hold.served ≡ []
  pub sets : front.way ≡ Sets → All IsSet hold.commands

-- what was read at this line: it and those behind it, in a hold; or its command or refusal
abbrev pub IsAskedAt : ℕ → Line → Asked → Lines → Type 0
IsAskedAt job line (Many front) hold = IsGathered job line front hold
IsAskedAt job line (One asked) hold = IsReadFor job line.text.now asked

-- a job's session did these commands, replied so, from what it had seen or more
abbrev pub HasHeld : List Command → List Reply → Option Held → Option Held → Type 0
HasHeld commands replies None later = ⊥
HasHeld commands replies (Some old) None = ⊥
HasHeld commands replies (Some old) (Some new) = (units more : List JournalUnit) × IsBeginning units old.seen × AreDone commands replies units more (knowing units old) new
