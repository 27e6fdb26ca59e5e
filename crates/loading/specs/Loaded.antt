-- What a text leaves that is loaded, or why none was.
-- Read IsLoaded, then IsFaultOf.
use Rattle.std.specs.Prelude.{◌≡◌, ◌≢◌, ◌≤◌, ◌⊎◌, ⊤, ℕ, ◌+◌, ◌-◌, ◌^◌, min, Bool, true, false, List, [], ◌∷◌, ◌++◌, map, length, Ok, Err, Result}
use Rattle.std.specs.FinMap as finmap
use Rattle.refusal.specs.declared.Refusal.{Refusal}
use Rattle.refusal.specs.declared.Refusal.TheVariants.{BadLine}
use Rattle.command.specs.declared.access.DataCommand.TheVariants.{Set}
use Rattle.command.specs.declared.access.Answer.TheVariants.{Done}
use Rattle.command.specs.declared.request.Command.{Command}
use Rattle.command.specs.declared.request.Command.TheVariants.{Access}
use Rattle.command.specs.declared.request.Reply.{Reply}
use Rattle.command.specs.declared.request.Reply.TheVariants.{Answered, Finished, Had, Count, AtLevel, Committed, Restarted, Refused}
use Rattle.journal.specs.declared.unit.Unit.{Unit as JournalUnit}
use Rattle.journal.specs.declared.unit.Unit.TheVariants.{Lone}
use Rattle.journal.specs.History.{initial, after}
use Rattle.journal.specs.Story.{Machine, nothing_done, story_of}
use Rattle.m_text.specs.Reading.{IsDue}
use Rattle.script.specs.declared.expected.Expected.TheVariants.{Rule}
use Rattle.loading.specs.Lines.{all_lines}
use Rattle.loading.specs.Settings.{Setting, TextFault, setting_at, before, settings_of, database_of}
use Rattle.loading.specs.declared.fault.FaultyLine.{FaultyLine}
use Rattle.loading.specs.declared.fault.LoadFault.{LoadFault}
use Rattle.loading.specs.declared.fault.LoadFault.TheVariants as faults

-- the steps: each setting is a SET of job 1, outside a transaction
abbrev pub steps_of : List Setting → List (ℕ × Command)
steps_of settings = map (λ s. (1, Access (Set s.0 s.1))) settings

-- each was done
abbrev pub replies_to : List Setting → List Reply
replies_to settings = map (λ s. Answered Done) settings

-- and is a unit
abbrev pub units_of : List Setting → List JournalUnit
units_of settings = map (λ s. Lone 1 (Set s.0 s.1) Done) settings

-- a machine without open transactions, and these done after what it did
abbrev pub with_settings : List Setting → Machine → Machine
with_settings settings s = record { units = s.units ++ units_of settings; transactions = s.transactions }

-- the machine is the story of the text's settings from nothing, each of them done
pub record IsLoaded (text : List ℕ) (s : Machine) : Type 0 where
  pub settings : List Setting
  pub asked : settings_of text ≡ Ok settings
  pub story : s ≡ story_of (steps_of settings) (replies_to settings) nothing_done
  pub units : s.units ≡ units_of settings
  pub content : (after s.units initial).map ≡ database_of settings
  pub unlocked : (after s.units initial).locks ≡ finmap.empty

-- numbers of lines are counted up to 2^64 - 1
abbrev pub counted : ℕ → ℕ
counted number = min number (2 ^ 64 - 1)

-- the fault is that of the first line that asks for no setting: its number and why; the column is one of the line's or the next
pub record IsFirstFault (asked : Result (List Setting) TextFault) (fault : FaultyLine) : Type 0 where
  pub first : TextFault
  pub is : asked ≡ Err first
  pub number : fault.number ≡ counted first.number
  pub refusal : fault.refusal ≡ first.refusal
  pub low : 1 ≤ fault.column
  pub high : fault.column ≤ length first.line + 1
  pub rule : fault.refusal ≢ BadLine → fault.expected ≡ Rule fault.refusal

-- a line is at fault, or memory ran out
abbrev pub IsFaultOf : Result (List Setting) TextFault → LoadFault → Type 0
IsFaultOf asked (faults.Line fault) = IsFirstFault asked fault
IsFaultOf asked faults.Memory = ⊤

-- ---- what the private functions do

-- the reply is an answer
abbrev pub is_answered : Reply → Bool
is_answered (Answered answer) = true
is_answered Finished = false
is_answered (Had had) = false
is_answered (Count n) = false
is_answered (AtLevel level) = false
is_answered Committed = false
is_answered (Restarted restarts) = false
is_answered (Refused refusal) = false

-- the first line of a text, and what follows it
abbrev pub IsFirstLine : List ℕ → List ℕ → List ℕ → Type 0
IsFirstLine text line rest = (all_lines text ≡ line ∷ all_lines rest) ⊎ ((all_lines text ≡ line ∷ []) × (rest ≡ []))

-- the step is that of the line's setting
pub record IsStepOf (line : List ℕ) (job : ℕ) (command : Command) : Type 0 where
  pub setting : Setting
  pub asked : setting_at line ≡ Ok setting
  pub first : job ≡ 1
  pub sets : command ≡ Access (Set setting.0 setting.1)

-- a step was read, or why there is none
abbrev pub IsStepRead : List ℕ → Result (ℕ × Command) Refusal → Type 0
IsStepRead line (Ok step) = IsStepOf line step.0 step.1
IsStepRead line (Err refusal) = IsDue refusal (setting_at line)

-- the settings of a text were done
pub record HasSetAll (asked : Result (List Setting) TextFault) (old new : Machine) : Type 0 where
  pub settings : List Setting
  pub is : asked ≡ Ok settings
  pub machine : new ≡ with_settings settings old

-- the settings before what is left were done
pub record IsSoFar (asked left : Result (List Setting) TextFault) (old new : Machine) : Type 0 where
  pub settings : List Setting
  pub goes_on : asked ≡ before settings left
  pub machine : new ≡ with_settings settings old
