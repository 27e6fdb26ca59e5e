-- What a line asks. Source: docs/FORMATS.md, "Lines" and "Which refusal a line gets".
-- Read reading_of and job_of_line, then IsReading; what a command is stands in Commands.
use Rattle.std.specs.Prelude.{◌≡◌, ◌<◌, ℕ, Bool, true, ◌&&◌, ◌||◌, ◌==◌, if◌then◌else◌, List, length, Option, None, Some, Result, Ok, Err}
use Rattle.refusal.specs.declared.Refusal.{Refusal}
use Rattle.refusal.specs.declared.Refusal.TheVariants.{BadLine, BadJob, OutOfMemory}
use Rattle.command.specs.declared.request.Command.{Command}
use Rattle.m_text.specs.Reading.{◌>>=◌}
use Rattle.m_text.specs.Literal.{front_digits, past_digits, number_from}
use Rattle.m_text.specs.Place.{unless}
use Rattle.script.specs.Commands.{begins_blank, past_blank, blank_at, command_at, command_fault, ComesToOperands}
pub use Rattle.collation.specs.Limits.{is_job}
use Rattle.script.specs.declared.line.LineFault.{LineFault}

-- the end of a line: a blank or nothing
abbrev pub end_of : Command × List ℕ → Option Command
end_of x = if length (past_blank x.1) == 0 then Some x.0 else None

-- a line of the grammar: digits, a blank, a command and perhaps a blank
unfoldable pub spelled_by : List ℕ → Option Command
spelled_by line =
    if length (front_digits line) == 0
    then None
    else (do
      rest ← blank_at (past_digits line)
      command ← command_at rest
      end_of command)

-- first the grammar is looked at, then the job, then the command's faults
abbrev pub judged : ℕ → Option Command → Result (ℕ × Command) Refusal
judged job None = Err BadLine
judged job (Some command) = if is_job job then unless (command_fault command) (job, command) else Err BadJob

-- the job and the command of a line, or its refusal
unfoldable pub reading_of : List ℕ → Result (ℕ × Command) Refusal
reading_of line = judged (number_from 0 (front_digits line)) (spelled_by line)

-- digits end at a blank or the end of the line
abbrev pub ends_digits : List ℕ → Bool
ends_digits rest = length rest == 0 || begins_blank rest

-- the job that is printed before a refusal, where one can be read
unfoldable pub job_of_line : List ℕ → Option ℕ
job_of_line line =
    if ends_digits (past_digits line) && is_job (number_from 0 (front_digits line)) then Some (number_from 0 (front_digits line)) else None

-- the line is read as far as its command's operands: a reference, a value, lock names
abbrev pub HasOperands : List ℕ → Type 0
HasOperands line =
    (0 < length (front_digits line)) × (begins_blank (past_digits line) ≡ true) × ComesToOperands (past_blank (past_digits line))

-- the refusal of the line, or that of memory, which only reading operands takes
abbrev pub IsRefusalOf : List ℕ → Refusal → Type 0
IsRefusalOf line OutOfMemory = HasOperands line
IsRefusalOf line refusal = reading_of line ≡ Err refusal

-- what a function answered is what the line asks, unless memory ran out
abbrev pub IsReading : List ℕ → Result (ℕ × Command) LineFault → Type 0
IsReading line (Ok step) = (reading_of line ≡ Ok step) × (job_of_line line ≡ Some step.0)
IsReading line (Err fault) = IsRefusalOf line fault.refusal × (fault.job ≡ job_of_line line)
