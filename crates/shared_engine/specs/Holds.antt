-- Lines that are done under one hold of the lock: what they ask, and what they are told. Read Lines, then commands_of and
-- served_of.
use Rattle.std.specs.Prelude.{◌≡◌, ◌≤◌, ℕ, List, [], ◌∷◌, ◌++◌, length, take, drop, map, Option, None, Result, Ok, Err}
use Rattle.refusal.specs.declared.Refusal.{Refusal}
use Rattle.collation.specs.Reference.{Reference}
use Rattle.collation.specs.Database.{Database}
use Rattle.command.specs.declared.access.DataCommand.{DataCommand}
use Rattle.command.specs.declared.access.DataCommand.TheVariants.{Set, Look}
use Rattle.command.specs.declared.access.Look.TheVariants.{Get}
use Rattle.command.specs.declared.access.Answer.{Answer}
use Rattle.command.specs.declared.access.Answer.TheVariants.{Done, Value}
use Rattle.command.specs.declared.request.Command.{Command}
use Rattle.command.specs.declared.request.Command.TheVariants.{Access}
use Rattle.command.specs.declared.request.Reply.{Reply}
use Rattle.command.specs.declared.request.Reply.TheVariants.{Answered, Refused}
use Rattle.journal.specs.declared.unit.Unit.{Unit as JournalUnit}
use Rattle.journal.specs.Gathered.{Gathered, got}
use Rattle.journal.specs.History.{initial, after}
use Rattle.job_core.specs.Lent.{value_at}
use Rattle.shared_engine.specs.declared.asked.Ask.{Ask}
use Rattle.shared_engine.specs.declared.asked.Ask.TheVariants.{Set as ask_set, Get as ask_get, Other as ask_other}
use Rattle.shared_engine.specs.declared.told.Tag.{Tag}
use Rattle.shared_engine.specs.declared.told.Tag.TheVariants.{Done as tag_done, Value as tag_value, Answer as tag_answer, Refused as tag_refused}
use Rattle.shared_engine.specs.declared.told.Told.{Told}
use Rattle.shared_engine.specs.declared.told.Told.TheVariants.{Done as told_done, Value as told_value, Answer as told_answer, Refused as told_refused}

-- a place for each line, with its refusal where it is refused; the commands of the others, in order; what these were told,
-- in order; and how many lines more there is room for
pub record Lines : Type 0 where
  pub places : List (Option Refusal)
  pub commands : List DataCommand
  pub served : List Reply
  pub room : ℕ

abbrev pub lines_held : List (Option Refusal) → List DataCommand → List Reply → ℕ → Lines
lines_held places commands served room = record { places = places; commands = commands; served = served; room = room }

-- a $GET without a default
abbrev pub get_of : Reference → DataCommand
get_of key = Look (Get key None)

-- a SET
abbrev pub IsSet : DataCommand → Type 0
IsSet command = (key : Reference) × (value : List ℕ) × (command ≡ Set key value)

-- a job's $GETs of these keys as units, each answered with the value on a map
abbrev pub gets_on : ℕ → Database → List Reference → List JournalUnit
gets_on job m keys = map (λ key. got job key (value_at key m)) keys

-- the replies to $GETs of these keys on a map
abbrev pub values_on : Database → List Reference → List Reply
values_on m keys = map (λ key. Answered (Value (value_at key m))) keys

-- $GETs of these keys lie there as units of the job, and so do their replies, as they were when there were just so many
-- units, these
pub record AreGathered (job number : ℕ) (units : List JournalUnit) (keys : List Reference) (gets : Gathered) (served : List Reply) : Type 0 where
  pub counted : number ≡ length units
  pub owner : gets.job ≡ job
  pub gathered : gets.units ≡ gets_on job (after units initial).map keys
  pub told : served ≡ values_on (after units initial).map keys

-- the commands are $GETs, some, and are gathered so
pub record IsAhead (job number : ℕ) (units : List JournalUnit) (commands : List DataCommand) (gets : Gathered) (served : List Reply) : Type 0 where
  pub keys : List Reference
  pub some : 1 ≤ length keys
  pub asked : commands ≡ map get_of keys
  pub are : AreGathered job number units keys gets served

-- data commands as a session's commands
abbrev pub accesses : List DataCommand → List Command
accesses commands = map Access commands

-- what a lent answer says
abbrev pub reply_told : Told → Reply
reply_told told_done = Answered Done
reply_told (told_value value) = Answered (Value value.now)
reply_told (told_answer answer) = Answered answer.now
reply_told (told_refused refusal) = Refused refusal

-- ---- what is asked

-- the tags of the commands left, and these; how many lines more there is room for; and how many of those left lie there
-- whole
pub record Asking : Type 0 where
  pub tags : List Ask
  pub commands : List DataCommand
  pub room : ℕ
  pub others : ℕ

abbrev pub asking : List Ask → List DataCommand → ℕ → ℕ → Asking
asking tags commands room others = record { tags = tags; commands = commands; room = room; others = others }

-- this tag is the first
abbrev pub IsTagged : Ask → List Ask → Type 0
IsTagged ask tags = (rest : List Ask) × (tags ≡ ask ∷ rest)

-- the first command is as this tag says
abbrev pub IsAskedBy : Ask → List DataCommand → Type 0
IsAskedBy ask_set commands = (key : Reference) × (text : List ℕ) × (rest : List DataCommand) × (commands ≡ Set key text ∷ rest)
IsAskedBy ask_get commands = (key : Reference) × (rest : List DataCommand) × (commands ≡ get_of key ∷ rest)
IsAskedBy ask_other commands = (command : DataCommand) × (rest : List DataCommand) × (commands ≡ command ∷ rest)

-- the first command is gone
abbrev pub IsPassed : List DataCommand → List DataCommand → Type 0
IsPassed old new = (command : DataCommand) → (rest : List DataCommand) → old ≡ command ∷ rest → new ≡ rest

-- the commands that the tags name, out of keys, values and whole commands
abbrev pub commands_of : List Ask → List Reference → List (List ℕ) → List DataCommand → List DataCommand
commands_of [] keys texts others = []
commands_of (ask_set ∷ asks) [] texts others = []
commands_of (ask_set ∷ asks) (key ∷ keys) [] others = []
commands_of (ask_set ∷ asks) (key ∷ keys) (text ∷ texts) others = Set key text ∷ commands_of asks keys texts others
commands_of (ask_get ∷ asks) [] texts others = []
commands_of (ask_get ∷ asks) (key ∷ keys) texts others = get_of key ∷ commands_of asks keys texts others
commands_of (ask_other ∷ asks) keys texts [] = []
commands_of (ask_other ∷ asks) keys texts (command ∷ others) = command ∷ commands_of asks keys texts others

-- they are just enough
abbrev pub AreJust : List Ask → List Reference → List (List ℕ) → List DataCommand → Type 0
AreJust [] keys texts others = (keys ≡ []) × ((texts ≡ []) × (others ≡ []))
AreJust (ask_set ∷ asks) [] texts others = ⊥
AreJust (ask_set ∷ asks) (key ∷ keys) [] others = ⊥
AreJust (ask_set ∷ asks) (key ∷ keys) (text ∷ texts) others = AreJust asks keys texts others
AreJust (ask_get ∷ asks) [] texts others = ⊥
AreJust (ask_get ∷ asks) (key ∷ keys) texts others = AreJust asks keys texts others
AreJust (ask_other ∷ asks) keys texts [] = ⊥
AreJust (ask_other ∷ asks) keys texts (command ∷ others) = AreJust asks keys texts others

-- ---- what was told

-- the replies, and how many more of them, and of other answers, there is room for
pub record Telling : Type 0 where
  pub served : List Reply
  pub room : ℕ
  pub answers : ℕ

abbrev pub telling : List Reply → ℕ → ℕ → Telling
telling served room answers = record { served = served; room = room; answers = answers }

-- the tag of a reply to a command that answers Done alone
abbrev pub done_tag : Result (Unit {0}) Refusal → Tag
done_tag (Ok done) = tag_done
done_tag (Err refusal) = tag_refused refusal

-- the tag of a reply to a $GET, by how many bytes its value has
abbrev pub got_tag : Result ℕ Refusal → Tag
got_tag (Ok size) = tag_value size
got_tag (Err refusal) = tag_refused refusal

-- the replies that the tags name, out of the values, one after the other, and the other answers
abbrev pub served_of : List Tag → List ℕ → List Answer → List Reply
served_of [] values answers = []
served_of (tag_done ∷ tags) values answers = Answered Done ∷ served_of tags values answers
served_of (tag_value size ∷ tags) values answers = Answered (Value (take size values)) ∷ served_of tags (drop size values) answers
served_of (tag_answer ∷ tags) values [] = []
served_of (tag_answer ∷ tags) values (answer ∷ answers) = Answered answer ∷ served_of tags values answers
served_of (tag_refused refusal ∷ tags) values answers = Refused refusal ∷ served_of tags values answers

-- they are just enough
abbrev pub AreTold : List Tag → List ℕ → List Answer → Type 0
AreTold [] values answers = (values ≡ []) × (answers ≡ [])
AreTold (tag_done ∷ tags) values answers = AreTold tags values answers
AreTold (tag_value size ∷ tags) values answers = (front : List ℕ) × (back : List ℕ) × (values ≡ front ++ back) × (size ≡ length front) × AreTold tags back answers
AreTold (tag_answer ∷ tags) values [] = ⊥
AreTold (tag_answer ∷ tags) values (answer ∷ answers) = AreTold tags values answers
AreTold (tag_refused refusal ∷ tags) values answers = AreTold tags values answers
