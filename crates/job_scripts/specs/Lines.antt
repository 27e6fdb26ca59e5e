-- The lines of a script, and what a line asks of a job. Source: docs/FORMATS.md, "Which refusal a line gets".
-- Read Asks, IsReadFor and IsRequestFor.
use Rattle.std.specs.Prelude.{◌≡◌, ◌≢◌, ◌⊎◌, ℕ, List, map, Result, Ok, Err}
use Rattle.std.specs.Borrow.{Bor}
use Rattle.refusal.specs.declared.Refusal.{Refusal}
use Rattle.refusal.specs.declared.Refusal.TheVariants.{BadJob}
use Rattle.command.specs.declared.request.Command.{Command}
use Rattle.script.specs.Line.{reading_of, IsRefusalOf}
use Rattle.script.specs.Asked.{IsAsked}
use Rattle.script.specs.declared.sentence.Drafts.{Drafts}
use Rattle.script.specs.declared.sentence.Sentence.{Sentence}

-- the bytes of lines that are lent
abbrev pub lent_lines : List (Bor (List ℕ)) → List (List ℕ)
lent_lines lines = map (λ line. line.now) lines

-- the line asks for this command, of this job
abbrev pub Asks : ℕ → List ℕ → Command → Type 0
Asks job line command = reading_of line ≡ Ok (job, command)

-- the line can be read, and asks something of another job
abbrev pub AsksAnother : ℕ → List ℕ → Type 0
AsksAnother job line = (step : ℕ × Command) × (reading_of line ≡ Ok step) × (step.0 ≢ job)

-- as one of the job's, the line is refused so: for its own fault, or since it is another job's
abbrev pub IsRefusedAs : ℕ → List ℕ → Refusal → Type 0
IsRefusedAs job line refusal = IsRefusalOf line refusal ⊎ ((refusal ≡ BadJob) × AsksAnother job line)

-- what was read of one of the job's lines: the command that it asks for, or its refusal
abbrev pub IsReadFor : ℕ → List ℕ → Result Command Refusal → Type 0
IsReadFor job line (Ok command) = Asks job line command
IsReadFor job line (Err refusal) = IsRefusedAs job line refusal

-- the same as far as its sentence, of which the references, lock names and value stand in drafts
abbrev pub IsRequestFor : ℕ → List ℕ → Drafts → Result Sentence Refusal → Type 0
IsRequestFor job line drafts (Ok sentence) = IsAsked line drafts job sentence
IsRequestFor job line drafts (Err refusal) = IsRefusedAs job line refusal
