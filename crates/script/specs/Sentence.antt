-- Sentences, and the commands that they say with the references and lock names of drafts.
use Rattle.std.specs.Prelude.{◌≡◌, ⊤, ℕ, Bool, true, false, List, [], Option, None, Some, Result, Ok, Err, vec_capacity}
use Rattle.std.specs.Borrow.{Bor}
use Rattle.refusal.specs.declared.Refusal.{Refusal}
use Rattle.refusal.specs.declared.Refusal.TheVariants.{OutOfMemory}
use Rattle.collation.specs.Reference.{Reference, Resource}
use Rattle.lock_name.specs.declared.lock.LockCommand.{LockCommand}
use Rattle.lock_name.specs.declared.lock.LockCommand.TheVariants.{Release}
use Rattle.key_codec.specs.Draft.{IsDraft}
use Rattle.key_codec.specs.declared.draft.KeyDraft.{KeyDraft}
use Rattle.command.specs.declared.access.DataCommand.{DataCommand}
use Rattle.command.specs.declared.access.DataCommand.TheVariants.{Set, Kill, Merge, Increment, Look}
use Rattle.command.specs.declared.access.Look.TheVariants.{Data, Get, Order, Query, Name}
use Rattle.command.specs.declared.request.Command.{Command}
use Rattle.command.specs.declared.request.Command.TheVariants.{Access, Lock}
use Rattle.m_text.specs.Reading.{IsUnread}
use Rattle.m_text.specs.Place.{spot_of}
use Rattle.script.specs.declared.lock.Form.{Form}
use Rattle.script.specs.declared.names.Names.{Names}
use Rattle.script.specs.declared.sentence.Drafts.{Drafts}
use Rattle.script.specs.declared.sentence.DataSentence.{DataSentence}
use Rattle.script.specs.declared.sentence.DataSentence.TheVariants as data_sentences
use Rattle.script.specs.declared.sentence.Sentence.{Sentence}
use Rattle.script.specs.declared.sentence.Sentence.TheVariants as sentences
use Rattle.script.specs.Locking.{locking, names_fault}
use Rattle.script.specs.Commands.{command_of}

-- the value that drafts keep
abbrev pub value_in : Drafts → List ℕ
value_in drafts = drafts.value

-- no value is kept
abbrev pub HasNoValue : Drafts → Type 0
HasNoValue drafts = drafts.value ≡ []

-- no lock name is kept, nor room for one
abbrev pub HasNoRoom : Names → Type 0
HasNoRoom names = (names.found.items ≡ []) × (vec_capacity names.found ≡ 0)

abbrev pub HasNoNames : Drafts → Type 0
HasNoNames drafts = HasNoRoom drafts.names

-- the sentence has a value
abbrev pub has_value : DataSentence → Bool
has_value data_sentences.Set = true
has_value (data_sentences.Kill extent) = false
has_value data_sentences.Merge = false
has_value data_sentences.Increment = true
has_value data_sentences.Data = false
has_value data_sentences.Get = false
has_value data_sentences.GetOr = true
has_value (data_sentences.Order direction) = false
has_value (data_sentences.Query direction) = false
has_value (data_sentences.NameFrom direction) = true
has_value (data_sentences.EndName direction) = false

-- reading it leaves a value in the drafts
abbrev pub leaves_value : Sentence → Bool
leaves_value (sentences.Access sentence) = has_value sentence
leaves_value sentences.Release = false
leaves_value (sentences.Lock form) = false
leaves_value (sentences.Alone word) = false

-- reading it leaves lock names there
abbrev pub leaves_names : Sentence → Bool
leaves_names (sentences.Access sentence) = false
leaves_names sentences.Release = false
leaves_names (sentences.Lock form) = true
leaves_names (sentences.Alone word) = false

-- the sentence says the command of r, which for MERGE has the reference of the second draft too, and for SET, $INCREMENT, a $GET with a default and a $ORDER of names from one the value
abbrev pub Says : KeyDraft → List ℕ → Reference → DataSentence → DataCommand → Type 0
Says second value r data_sentences.Set c = c ≡ Set r value
Says second value r (data_sentences.Kill extent) c = c ≡ Kill r extent
Says second value r data_sentences.Merge c = (s : Reference) × (c ≡ (Merge r s)) × IsDraft second s
Says second value r data_sentences.Increment c = c ≡ Increment r value
Says second value r data_sentences.Data c = c ≡ Look (Data r)
Says second value r data_sentences.Get c = c ≡ Look (Get r None)
Says second value r data_sentences.GetOr c = c ≡ Look (Get r (Some value))
Says second value r (data_sentences.Order direction) c = c ≡ Look (Order (spot_of r) direction)
Says second value r (data_sentences.Query direction) c = c ≡ Look (Query (spot_of r) direction)
Says second value r (data_sentences.NameFrom direction) c = c ≡ Look (Name (Some value) direction)
Says second value r (data_sentences.EndName direction) c = c ≡ Look (Name None direction)

-- what is read after the reference r says the command that is there
abbrev pub Tells : KeyDraft → List ℕ → Reference → Result (DataSentence × Bor (List ℕ)) Refusal → Option (DataCommand × List ℕ) → Type 0
Tells second value r (Ok x) read = (c : DataCommand) × (read ≡ Some (c, x.1.now)) × Says second value r x.0 c
Tells second value r (Err refusal) read = IsUnread refusal read

-- a sentence and what the drafts have are those of the data command
pub record SpellsData (drafts : Drafts) (sentence : DataSentence) (c : DataCommand) : Type 0 where
  pub reference : Reference
  pub drafted : IsDraft drafts.first reference
  pub said : Says drafts.second drafts.value reference sentence c

-- the sentence is that of some data command
pub record SomeData (drafts : Drafts) (sentence : DataSentence) : Type 0 where
  pub command : DataCommand
  pub spelled : SpellsData drafts sentence command

-- what is read is the sentence of the data command that is there
abbrev pub FindsData : Drafts → Result (DataSentence × Bor (List ℕ)) Refusal → Option (DataCommand × List ℕ) → Type 0
FindsData drafts (Ok x) read = (c : DataCommand) × (read ≡ Some (c, x.1.now)) × SpellsData drafts x.0 c
FindsData drafts (Err refusal) read = IsUnread refusal read

-- what is read behind "^$" is the sentence of the $ORDER of names that is there, whose start is the value
abbrev pub FindsNames : List ℕ → Result (DataSentence × Bor (List ℕ)) Refusal → Option (DataCommand × List ℕ) → Type 0
FindsNames value (Ok x) read = (c : DataCommand) × (read ≡ Some (c, x.1.now)) × ((second : KeyDraft) (r : Reference) → Says second value r x.0 c)
FindsNames value (Err refusal) read = IsUnread refusal read

-- the lock names that are read, whatever faults they have: the first fault, or all of them
pub record AreNamed (names : Names) (ns : List Resource) : Type 0 where
  pub fault : names.fault ≡ names_fault ns
  pub found : names_fault ns ≡ None → names.found.items ≡ ns

-- the names are those that are read
abbrev pub NamesSpelled : Names → Result (Bor (List ℕ)) Refusal → Option (List Resource × List ℕ) → Type 0
NamesSpelled names (Ok rest) read = (ns : List Resource) × (read ≡ Some (ns, rest.now)) × AreNamed names ns
NamesSpelled names (Err refusal) read = IsUnread refusal read

-- a form and the names are those of the LOCK that is there
abbrev pub FindsLocking : Names → Result (Form × Bor (List ℕ)) Refusal → Option (LockCommand × List ℕ) → Type 0
FindsLocking names (Ok x) read = (ns : List Resource) × (read ≡ Some (locking x.0 ns, x.1.now)) × AreNamed names ns
FindsLocking names (Err refusal) read = IsUnread refusal read

-- a sentence with what the drafts have says the command
abbrev pub Spells : Drafts → Sentence → Command → Type 0
Spells drafts (sentences.Access sentence) c = (d : DataCommand) × (c ≡ Access d) × SpellsData drafts sentence d
Spells drafts sentences.Release c = c ≡ Lock Release
Spells drafts (sentences.Lock form) c = (ns : List Resource) × (c ≡ Lock (locking form ns)) × AreNamed drafts.names ns
Spells drafts (sentences.Alone word) c = c ≡ command_of word

-- what is read is the sentence of the command that is there
abbrev pub Finds : Drafts → Result (Sentence × Bor (List ℕ)) Refusal → Option (Command × List ℕ) → Type 0
Finds drafts (Ok x) read = (c : Command) × (read ≡ Some (c, x.1.now)) × Spells drafts x.0 c
Finds drafts (Err refusal) read = IsUnread refusal read

-- the same of a whole line
abbrev pub FindsAll : Drafts → Result Sentence Refusal → Option Command → Type 0
FindsAll drafts (Ok sentence) read = (c : Command) × (read ≡ Some c) × Spells drafts sentence c
FindsAll drafts (Err refusal) read = IsUnread refusal read

-- the sentence has operands
abbrev pub IsOfOperands : Sentence → Type 0
IsOfOperands (sentences.Access sentence) = ⊤
IsOfOperands sentences.Release = ⊥
IsOfOperands (sentences.Lock form) = ⊤
IsOfOperands (sentences.Alone word) = ⊥

-- there are operands where the sentence has some, and where memory was refused
abbrev pub ReadsOperands : Type 0 → Result Sentence Refusal → Type 0
ReadsOperands are_there (Ok sentence) = IsOfOperands sentence → are_there
ReadsOperands are_there (Err refusal) = refusal ≡ OutOfMemory → are_there

-- the same, before what follows
abbrev pub ReadsOperandsAt : Type 0 → Result (Sentence × Bor (List ℕ)) Refusal → Type 0
ReadsOperandsAt are_there (Ok x) = IsOfOperands x.0 → are_there
ReadsOperandsAt are_there (Err refusal) = refusal ≡ OutOfMemory → are_there

-- the sentence is that of some command
pub record SpellsSome (drafts : Drafts) (sentence : Sentence) : Type 0 where
  pub command : Command
  pub spelled : Spells drafts sentence command
