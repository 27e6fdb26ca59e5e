-- The sentences of commands.
use Rattle.std.proofs.Common.{◌≡◌, ℕ, false, List, length, Option, None, Some, Result, Ok, Err, Bor, refl, sym, ap, subst, ◌∙◌}
use Rattle.refusal.specs.declared.Refusal.{Refusal}
use Rattle.std.specs.Prelude.{◌==◌}
use Rattle.collation.specs.Reference.{Reference, Resource}
use Rattle.collation.specs.declared.direction.Direction.{Direction}
use Rattle.lock_name.specs.declared.lock.LockCommand.{LockCommand}
use Rattle.key_codec.specs.Draft.{IsDraft}
use Rattle.key_codec.specs.declared.draft.KeyDraft.{KeyDraft}
use Rattle.command.specs.declared.access.DataCommand.{DataCommand}
use Rattle.command.specs.declared.access.DataCommand.TheVariants.{Merge, Look}
use Rattle.command.specs.declared.access.Look.TheVariants.{Name}
use Rattle.command.specs.declared.request.Command.{Command}
use Rattle.command.specs.declared.request.Command.TheVariants.{Access, Lock}
use Rattle.m_text.specs.Reading.{◌>>=◌, after_byte, IsUnread, IsDue}
use Rattle.m_text.specs.Place.{place_at, unless}
use Rattle.m_text.specs.laws.Reading.{refused_too}
use Rattle.script.specs.declared.word.DataWord.{DataWord}
use Rattle.script.specs.declared.word.DataWord.TheVariants as data_words
use Rattle.script.specs.declared.names.Names.{Names}
use Rattle.script.specs.declared.sentence.DataSentence.{DataSentence}
use Rattle.script.specs.declared.word.Word.TheVariants as words
use Rattle.script.specs.declared.lock.Form.{Form}
use Rattle.script.specs.declared.lock.Form.TheVariants as forms
use Rattle.script.specs.declared.sentence.Drafts.{Drafts}
use Rattle.script.specs.declared.sentence.Sentence.{Sentence}
use Rattle.script.specs.declared.sentence.Sentence.TheVariants as sentences
use Rattle.script.specs.Locking.{locking, locking_at, names_fault, lock_fault}
use Rattle.script.specs.Commands.{past_blank, blank_at, source_at, tail_at, placed_at, start_of, argument_at, direction_at, names_at, structured_at, operands_by, operands_at, lock_at, behind_act, behind_function, command_fault}
use Rattle.script.specs.Sentence.{Tells, FindsData, AreNamed, Spells}
use Rattle.script.proofs.Due.{due_other}

-- MERGE's source
pub merged : (word : DataWord) (text rest : List ℕ) (r s : Reference) → word ≡ data_words.Merge → source_at text ≡ Some (s, rest) → tail_at word r text ≡ Some (Merge r s, rest)
merged word text rest r s e f = ap (λ w. tail_at w r text) e ∙ ap (λ (read : Option (Reference × List ℕ)). read >>= λ source. Some (Merge r source.0, source.1)) f

-- after the reference
tail_is : (word : DataWord) (text rest : List ℕ) (r : Reference) → place_at text ≡ Some (r, rest) → placed_at word text ≡ tail_at word r rest
unfolding placed_at
tail_is word text rest r e = ap (λ (read : Option (Reference × List ℕ)). read >>= λ place. tail_at word place.0 place.1) e

pub found : (first second : KeyDraft) (names : Names) (value : List ℕ) (word : DataWord) (text rest : List ℕ) (r : Reference) (read : Result (DataSentence × Bor (List ℕ)) Refusal) → place_at text ≡ Some (r, rest) → IsDraft first r → Tells second value r read (tail_at word r rest) → FindsData (record { first = first; second = second; names = names; value = value }) read (placed_at word text)
found first second names value word text rest r (Ok x) e is h = (h.0, tail_is word text rest r e ∙ h.1, record { reference = r; drafted = is; said = h.2 })
found first second names value word text rest r (Err refusal) e is h = refused_too refusal (tail_at word r rest) (placed_at word text) (λ none. tail_is word text rest r e ∙ none) h

pub unfound : (word : DataWord) (text : List ℕ) (refusal : Refusal) → IsUnread refusal (place_at text) → IsUnread refusal (placed_at word text)
unfolding placed_at
unfound word text refusal h = refused_too refusal (place_at text) (placed_at word text) (λ none. ap (λ (read : Option (Reference × List ℕ)). read >>= λ place. tail_at word place.0 place.1) none) h

-- names from the start that a string is, in a direction
pub names_from : (text rest behind argument lent : List ℕ) (direction : Direction) → lent ≡ argument → argument_at text ≡ Some (argument, rest) → direction_at rest ≡ Some (direction, behind) → names_at text ≡ Some (Look (Name (start_of lent) direction), behind)
unfolding names_at
names_from text rest behind argument lent direction p e f = rw (p, e, f) refl

-- names, or a reference
pub names_told : (word : DataWord) (text rest : List ℕ) → Some rest ≡ structured_at word text → names_at rest ≡ operands_at word text
unfolding operands_at
names_told word text rest e = ap (λ s. operands_by s word text) e

pub placed_told : (word : DataWord) (text : List ℕ) → None ≡ structured_at word text → placed_at word text ≡ operands_at word text
unfolding operands_at
placed_told word text e = ap (λ s. operands_by s word text) e

-- after a blank, and in parentheses
pub change_is : (word : DataWord) (text rest behind : List ℕ) (d : DataCommand) → blank_at text ≡ Some rest → operands_at word rest ≡ Some (d, behind) → behind_act (words.Access word) text ≡ Some (Access d, behind)
change_is word text rest behind d e f =
    ap (λ (read : Option (List ℕ)). read >>= λ rest. ◌>>=◌ {B = Command × List ℕ} (operands_at word rest) (λ command. Some (Access command.0, command.1))) e
    ∙ ap (λ (read : Option (DataCommand × List ℕ)). ◌>>=◌ {B = Command × List ℕ} read (λ command. Some (Access command.0, command.1))) f

pub look_is : (word : DataWord) (text rest behind last : List ℕ) (d : DataCommand) → after_byte 40 text ≡ Some rest → operands_at word rest ≡ Some (d, behind) → after_byte 41 behind ≡ Some last → behind_function (words.Access word) text ≡ Some (Access d, last)
look_is word text rest behind last d e f g =
    ap (λ (read : Option (List ℕ)). read >>= λ rest. operands_at word rest >>= λ command. ◌>>=◌ {B = Command × List ℕ} (after_byte 41 command.1) (λ rest. Some (Access command.0, rest))) e
    ∙ ap (λ (read : Option (DataCommand × List ℕ)). read >>= λ command. ◌>>=◌ {B = Command × List ℕ} (after_byte 41 command.1) (λ rest. Some (Access command.0, rest))) f
    ∙ ap (λ (read : Option (List ℕ)). ◌>>=◌ {B = Command × List ℕ} read (λ rest. Some (Access d, rest))) g

-- after LOCK's word, where more than a blank stands there
pub names_are : (text past rest behind : List ℕ) (c : LockCommand) → past ≡ past_blank text → (length past == 0) ≡ false → blank_at text ≡ Some rest → locking_at rest ≡ Some (c, behind) → lock_at text ≡ Some (Lock c, behind)
unfolding lock_at
names_are text past rest behind c p some e f =
    let more : (length (past_blank text) == 0) ≡ false = ap (λ (u : List ℕ). length u == 0) (sym p) ∙ some in
    rw (more, e, f) refl

-- the fault of a LOCK is that of its names
locking_fault : (form : Form) (ns : List Resource) → lock_fault (locking form ns) ≡ names_fault ns
locking_fault forms.Only ns = refl
locking_fault forms.More ns = refl
locking_fault forms.Fewer ns = refl

pub names_due : (drafts : Drafts) (sentence : Sentence) (form : Form) (refusal : Refusal) (c : Command) → sentence ≡ sentences.Lock form → ((ns : List Resource) → AreNamed drafts.names ns → IsDue refusal (unless (names_fault ns) ns)) →
    Spells drafts sentence c → IsDue refusal (unless (command_fault c) c)
names_due drafts sentence form refusal c e due said =
    let says = subst (λ (s : Sentence). Spells drafts s c) e said in
    let fault : names_fault says.0 ≡ command_fault c = sym (locking_fault form says.0) ∙ ap command_fault (sym says.1) in
    subst (λ (f : Option Refusal). IsDue refusal (unless f c)) fault (due_other refusal (names_fault says.0) says.0 c (due says.0 says.2))
