-- What a text that is loaded asks for. Source: docs/FORMATS.md, "Loaded listings".
-- Read settings_of, then asked_from and setting_at.
use Rattle.std.specs.Prelude.{ℕ, ◌+◌, List, [], ◌∷◌, ◌++◌, drop, Result, Ok, Err, codes}
use Rattle.refusal.specs.declared.Refusal.{Refusal}
use Rattle.refusal.specs.declared.Refusal.TheVariants.{BadLine}
use Rattle.std.specs.FinMap as finmap
use Rattle.collation.specs.Reference.{Reference}
use Rattle.collation.specs.Database.{Database}
use Rattle.collation.specs.Answers.{set_all}
use Rattle.command.specs.declared.access.DataCommand.TheVariants.{Set}
use Rattle.command.specs.declared.request.Command.{Command}
use Rattle.command.specs.declared.request.Command.TheVariants.{Access}
use Rattle.script.specs.Line.{reading_of}
use Rattle.loading.specs.Lines.{all_lines, header_lines}

-- a reference, and the value that it is set to
abbrev pub Setting : Type 0
Setting = Reference × List ℕ

-- the first line that asks for no setting: its number, counted from 1, its bytes, and why
pub record TextFault : Type 0 where
  pub number : ℕ
  pub line : List ℕ
  pub refusal : Refusal

-- a line of a script in which job 1 sets what the line says
abbrev pub set_line : List ℕ → List ℕ
set_line line = codes "1 SET " ++ line

-- what a SET sets; no other command is read from such a line
abbrev pub set_by : Command → Result Setting Refusal
set_by (Access (Set r v)) = Ok (r, v)
set_by command = Err BadLine

abbrev pub asked_in : Result (ℕ × Command) Refusal → Result Setting Refusal
asked_in (Ok step) = set_by step.1
asked_in (Err refusal) = Err refusal

-- what a line sets, or why it sets nothing: that of the script's line
abbrev pub setting_at : List ℕ → Result Setting Refusal
setting_at line = asked_in (reading_of (set_line line))

-- a setting, or why there is none, before what the next lines ask for: the first fault decides
abbrev pub joined : ℕ → List ℕ → Result Setting Refusal → Result (List Setting) TextFault → Result (List Setting) TextFault
joined number line (Ok setting) (Ok settings) = Ok (setting ∷ settings)
joined number line (Ok setting) (Err fault) = Err fault
joined number line (Err refusal) asked = Err (record { number = number; line = line; refusal = refusal })

-- what a line asks for, before what the next ones ask for; an empty one asks for nothing
abbrev pub with_line : ℕ → List ℕ → Result (List Setting) TextFault → Result (List Setting) TextFault
with_line number [] asked = asked
with_line number (b ∷ bs) asked = joined number (b ∷ bs) (setting_at (b ∷ bs)) asked

-- what lines ask for, of which the first has this number
abbrev pub asked_from : ℕ → List (List ℕ) → Result (List Setting) TextFault
asked_from number [] = Ok []
asked_from number (line ∷ lines) = with_line number line (asked_from (number + 1) lines)

-- after headers
abbrev pub asked_after : ℕ → List (List ℕ) → Result (List Setting) TextFault
asked_after headers lines = asked_from (headers + 1) (drop headers lines)

-- settings, before what the next lines ask for
abbrev pub before : List Setting → Result (List Setting) TextFault → Result (List Setting) TextFault
before settings (Ok more) = Ok (settings ++ more)
before settings (Err fault) = Err fault

-- what a text asks for: its settings in order, or its first fault
abbrev pub settings_of : List ℕ → Result (List Setting) TextFault
settings_of text = asked_after (header_lines (all_lines text)) (all_lines text)

-- the database in which each reference has the value that it is set to last
abbrev pub database_of : List Setting → Database
database_of settings = set_all settings finmap.empty
