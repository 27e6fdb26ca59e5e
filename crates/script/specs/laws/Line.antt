-- Lines: what is read of them is spelled so, and what is spelled so is read.
use Rattle.std.proofs.Common.{◌≡◌, inl, inr, ℕ, ◌<◌, Bool, true, false, cond, List, [], ◌∷◌, ◌++◌, length, take, drop, Option, Some, None, Result, Ok, Err, refl, sym, ap, ◌∙◌, append_assoc, arith, length-append}
use Rattle.std.proofs.Math.Numerals.{one-add}
use Rattle.std.proofs.lemmas.Bool.{eqb-true, and_parts, or_cases}
use Rattle.std.proofs.lemmas.Bool.Decides.{nat_tests}
use Rattle.std.proofs.lemmas.List.{nil_from_length, append-nil}
use Rattle.std.proofs.lemmas.Option.{some_pair_parts, cond_some}
use Rattle.std.specs.Prelude.{not, ◌==◌, nat_lt}
use Rattle.std.specs.List.{list_all, position_or_len}
use Rattle.std.specs.Option.{option_or, option_and_then}
use Rattle.std.specs.Char.{is_ascii_alphabetic, is_ascii_digit}
use Rattle.refusal.specs.declared.Refusal.{Refusal}
use Rattle.refusal.specs.declared.Refusal.TheVariants.{BadLine, BadJob, BadName, TooManySubscripts, ValueTooLong, EmptySubscript, SubscriptTooLong}
use Rattle.collation.specs.Limits.{most_subscripts, most_value_bytes}
use Rattle.collation.specs.Name.{is_name}
use Rattle.collation.specs.Reference.{Reference, Spot, Resource}
use Rattle.collation.specs.Faults.{subscripts_fault, reference_fault}
use Rattle.command.specs.declared.access.DataCommand.{DataCommand}
use Rattle.command.specs.declared.access.DataCommand.TheVariants.{Set, Kill, Merge, Increment, Look}
use Rattle.command.specs.declared.access.Look.{Look as LookCommand}
use Rattle.command.specs.declared.access.Look.TheVariants.{Data, Get, Order, Query, Name}
use Rattle.lock_name.specs.declared.lock.LockCommand.{LockCommand}
use Rattle.lock_name.specs.declared.lock.LockCommand.TheVariants.{Release, Only, More, Fewer}
use Rattle.command.specs.declared.request.Command.{Command}
use Rattle.command.specs.declared.request.Command.TheVariants.{Access, Lock, Start, Commit, Rollback, Restart, Level, Restarts, Halt}
use Rattle.m_text.specs.Reading.{◌>>=◌, begins_with_byte, after_byte}
use Rattle.m_text.specs.Literal.{ends_letters, front_letters, past_letters, is_no_digit as digits_end, front_digits, past_digits, number_from}
use Rattle.m_text.specs.Place.{name_fault, ref_fault, spot_fault, subscript_count, unless}
use Rattle.m_text.specs.laws.Front.{Ends, some_length, some_test, run_passes, run_parts, run_is}
use Rattle.m_text.specs.laws.Parted.{begins}
use Rattle.m_text.specs.laws.Parts.{letters_kind, digits_kind}
use Rattle.m_text.specs.laws.Place.{FoundOf}
use Rattle.script.specs.declared.word.Word.{Word}
use Rattle.script.specs.declared.word.Word.TheVariants as words
use Rattle.script.specs.declared.word.DataWord.{DataWord}
use Rattle.script.specs.Words.{is_function, act_of, function_of}
use Rattle.script.specs.Locking.{names_fault, lock_fault, locking_at}
use Rattle.script.specs.Commands.{is_blank, ends_blank, past_blank, begins_blank, blank_at, operands_at, lock_at, command_of, behind_act, behind_function, acts_at, functions_at, command_at, value_fault, look_fault, data_fault, command_fault}
use Rattle.script.specs.Line.{is_job, end_of, spelled_by, judged, reading_of}
use Rattle.script.specs.Grammar.{IsBlank, IsWord, IsOperands, IsLocking, IsCommand, IsLine}
use Rattle.script.specs.Grammar.IsCommand.{act, function, release, lock, alone, function_alone}
use Rattle.script.specs.laws.Words.{act_named, function_named, act_word, function_word, named_letters}
use Rattle.script.specs.laws.Commands.{and_then_some, after_found, joined, found_is, Stops, operands_found, operands_read, operands_begin}
use Rattle.script.specs.laws.Locking.{locking_found, locking_read, locking_opens, locking_some}

-- blanks

blank_kind : (b : ℕ) → ends_blank b ≡ not (is_blank b)
blank_kind b = refl

blank_some : (text : List ℕ) → begins_blank text ≡ true → 0 < length (take (position_or_len ends_blank text) text)
blank_some [] e = absurd cc
blank_some (b ∷ bs) e = rw (e, one-add) (omega arith)

blank_found : (text rest : List ℕ) → blank_at text ≡ Some rest → (blank : List ℕ) × IsBlank blank × (text ≡ blank ++ rest)
blank_found text rest e =
    let g = cond_some (begins_blank text) (past_blank text) rest e in (
      take (position_or_len ends_blank text) text,
      record { bytes = run_passes ends_blank is_blank blank_kind text; some = blank_some text g.0 },
      run_parts ends_blank text ∙ ap (λ u. take (position_or_len ends_blank text) text ++ u) g.1,
    )

blank_begins : (blank rest : List ℕ) → IsBlank blank → begins_blank (blank ++ rest) ≡ true
blank_begins [] rest h = absurd (omega (arith, h.some))
blank_begins (b ∷ bs) rest h = (and_parts (is_blank b) _ h.bytes).0

blank_read : (blank rest : List ℕ) → IsBlank blank → Ends ends_blank rest → blank_at (blank ++ rest) ≡ Some rest
blank_read blank rest h ends =
    let p = run_is ends_blank is_blank blank_kind blank rest h.bytes ends in
    rw (blank_begins blank rest h, p.1) refl

-- a blank is no letter, no digit, and ends literals and references
blank_letter : (b : ℕ) → is_blank b ≡ true → (ends_letters b ≡ true) × (digits_end b ≡ true)
blank_letter b e = elim (or_cases (b == 32) (b == 9) e) [
  | inl p ↦ rw (eqb-true b 32 p) (refl, refl)
  | inr p ↦ rw (eqb-true b 9 p) (refl, refl)
]

blank_ends : (blank rest : List ℕ) → IsBlank blank → Ends ends_letters (blank ++ rest) × Ends digits_end (blank ++ rest)
blank_ends [] rest h = absurd (omega (arith, h.some))
blank_ends (b ∷ bs) rest h = blank_letter b (and_parts (is_blank b) _ h.bytes).0

blank_stops : (tail : List ℕ) → list_all is_blank tail ≡ true → Stops tail
blank_stops [] e = record { literal = tt; reference = tt; comma = refl }
blank_stops (b ∷ bs) e = elim (or_cases (b == 32) (b == 9) (and_parts (is_blank b) _ e).0) [
  | inl p ↦ rw (eqb-true b 32 p) (record { literal = refl; reference = refl; comma = refl })
  | inr p ↦ rw (eqb-true b 9 p) (record { literal = refl; reference = refl; comma = refl })
]

-- commands

not_function : (word : Word) → not (is_function word) ≡ true → is_function word ≡ false
not_function word e = at (is_function word) refl e
  where
    at : (t : Bool) → is_function word ≡ t → not t ≡ true → t ≡ false
    at true f e = absurd cc
    at false f e = refl

-- the command after letters that are a word
abbrev FoundBehind : List ℕ → List ℕ → Command → List ℕ → Type 0
FoundBehind front bytes c rest = FoundOf IsCommand (front ++ bytes) c rest

-- nothing but letters was read
only_letters : (front letters bytes : List ℕ) (x c : Command) (rest : List ℕ) → IsCommand (front ++ letters) x → ◌≡◌ {A = Option (Command × List ℕ)} (Some (x, bytes)) (Some (c, rest)) → FoundOf IsCommand (front ++ (letters ++ bytes)) c rest
only_letters front letters bytes x c rest form e =
    let p = some_pair_parts x c bytes rest e in
    found_is IsCommand (front ++ (letters ++ bytes)) x c bytes rest p.0 p.1 (record { text = front ++ letters; form = form; parts = sym (append_assoc front letters bytes) })

change_found : (word : DataWord) (letters bytes : List ℕ) (c : Command) (rest : List ℕ) → is_function (words.Access word) ≡ false → IsWord (words.Access word) letters → behind_act (words.Access word) bytes ≡ Some (c, rest) → FoundBehind letters bytes c rest
change_found word letters bytes c rest kind is e =
    let a = and_then_some {B = Command × List ℕ} (blank_at bytes) (λ rest. operands_at word rest >>= λ command. Some (Access command.0, command.1)) (c, rest) e in
    let b = and_then_some {B = Command × List ℕ} (operands_at word a.0) (λ command. Some (Access command.0, command.1)) (c, rest) a.2 in
    let p = some_pair_parts (Access b.0.0) c b.0.1 rest b.2 in
    let blank = blank_found bytes a.0 a.1 in
    let found = operands_found word a.0 b.0.0 b.0.1 b.1 in
    found_is IsCommand (letters ++ bytes) (Access b.0.0) c b.0.1 rest p.0 p.1 (record {
      text = letters ++ (blank.0 ++ found.text);
      form = act kind is blank.1 found.form;
      parts = joined (letters ++ bytes) letters bytes (blank.0 ++ found.text) b.0.1 refl (joined bytes blank.0 a.0 found.text b.0.1 blank.2 found.parts);
    })

lock_found : (letters bytes : List ℕ) (c : Command) (rest : List ℕ) → IsWord words.Lock letters → lock_at bytes ≡ Some (c, rest) → FoundBehind letters bytes c rest
unfolding lock_at
lock_found letters bytes c rest is e = at (length (past_blank bytes) == 0) e
  where
    at : (t : Bool) → cond {A = Option (Command × List ℕ)} t (Some (Lock Release, bytes)) (blank_at bytes >>= λ rest. locking_at rest >>= λ command. Some (Lock command.0, command.1)) ≡ Some (c, rest) → FoundBehind letters bytes c rest
    at true e = only_letters [] letters bytes (Lock Release) c rest (release is) e
    at false e =
        let a = and_then_some {B = Command × List ℕ} (blank_at bytes) (λ rest. locking_at rest >>= λ command. Some (Lock command.0, command.1)) (c, rest) e in
        let b = and_then_some {B = Command × List ℕ} (locking_at a.0) (λ command. Some (Lock command.0, command.1)) (c, rest) a.2 in
        let p = some_pair_parts (Lock b.0.0) c b.0.1 rest b.2 in
        let blank = blank_found bytes a.0 a.1 in
        let found = locking_found a.0 b.0.0 b.0.1 b.1 in
        found_is IsCommand (letters ++ bytes) (Lock b.0.0) c b.0.1 rest p.0 p.1 (record {
          text = letters ++ (blank.0 ++ found.text);
          form = lock is blank.1 found.form;
          parts = joined (letters ++ bytes) letters bytes (blank.0 ++ found.text) b.0.1 refl (joined bytes blank.0 a.0 found.text b.0.1 blank.2 found.parts);
        })

act_found : (word : Word) (letters bytes : List ℕ) (c : Command) (rest : List ℕ) → is_function word ≡ false → IsWord word letters → behind_act word bytes ≡ Some (c, rest) → FoundBehind letters bytes c rest
act_found (words.Access word) letters bytes c rest kind is e = change_found word letters bytes c rest kind is e
act_found words.Lock letters bytes c rest kind is e = lock_found letters bytes c rest is e
act_found (words.Alone word) letters bytes c rest kind is e = only_letters [] letters bytes (command_of word) c rest (alone kind is) e

in_parentheses : (bytes inner text behind rest : List ℕ) → bytes ≡ 40 ∷ inner → inner ≡ text ++ behind → behind ≡ 41 ∷ rest → bytes ≡ (40 ∷ (text ++ 41 ∷ [])) ++ rest
in_parentheses bytes inner text behind rest e f g = e ∙ ap (λ u. 40 ∷ u) (f ∙ ap (λ u. text ++ u) g ∙ sym (append_assoc text (41 ∷ []) rest))

look_found : (word : DataWord) (letters bytes : List ℕ) (c : Command) (rest : List ℕ) → is_function (words.Access word) ≡ true → IsWord (words.Access word) letters → behind_function (words.Access word) bytes ≡ Some (c, rest) → FoundBehind (36 ∷ letters) bytes c rest
look_found word letters bytes c rest kind is e =
    let a = and_then_some {B = Command × List ℕ} (after_byte 40 bytes) (λ rest. operands_at word rest >>= λ command. after_byte 41 command.1 >>= λ rest. Some (Access command.0, rest)) (c, rest) e in
    let b = and_then_some {B = Command × List ℕ} (operands_at word a.0) (λ command. after_byte 41 command.1 >>= λ rest. Some (Access command.0, rest)) (c, rest) a.2 in
    let z = and_then_some {B = Command × List ℕ} (after_byte 41 b.0.1) (λ rest. Some (Access b.0.0, rest)) (c, rest) b.2 in
    let p = some_pair_parts (Access b.0.0) c z.0 rest z.2 in
    let found = operands_found word a.0 b.0.0 b.0.1 b.1 in
    let inner : bytes ≡ (40 ∷ (found.text ++ 41 ∷ [])) ++ z.0 = in_parentheses bytes a.0 found.text b.0.1 z.0 (after_found 40 bytes a.0 a.1) found.parts (after_found 41 b.0.1 z.0 z.1) in
    found_is IsCommand (36 ∷ (letters ++ bytes)) (Access b.0.0) c z.0 rest p.0 p.1 (record {
      text = 36 ∷ (letters ++ (40 ∷ (found.text ++ 41 ∷ [])));
      form = function kind is found.form;
      parts = ap (λ u. 36 ∷ u) (joined (letters ++ bytes) letters bytes (40 ∷ (found.text ++ 41 ∷ [])) z.0 refl inner);
    })

function_found : (word : Word) (letters bytes : List ℕ) (c : Command) (rest : List ℕ) → is_function word ≡ true → IsWord word letters → behind_function word bytes ≡ Some (c, rest) → FoundBehind (36 ∷ letters) bytes c rest
function_found (words.Access word) letters bytes c rest kind is e = look_found word letters bytes c rest kind is e
function_found words.Lock letters bytes c rest kind is e = absurd cc
function_found (words.Alone word) letters bytes c rest kind is e = only_letters (36 ∷ []) letters bytes (command_of word) c rest (function_alone kind is) e

-- found in a text by another name
found_in : (bytes same : List ℕ) (c : Command) (rest : List ℕ) → bytes ≡ same → FoundOf IsCommand same c rest → FoundOf IsCommand bytes c rest
found_in bytes same c rest e found = record { text = found.text; form = found.form; parts = e ∙ found.parts }

acts_found : (bytes : List ℕ) (c : Command) (rest : List ℕ) → acts_at bytes ≡ Some (c, rest) → FoundOf IsCommand bytes c rest
unfolding acts_at
acts_found bytes c rest e =
    let a = and_then_some {B = Command × List ℕ} (act_of (front_letters bytes)) (λ word. behind_act word (past_letters bytes)) (c, rest) e in
    let word = act_word (front_letters bytes) a.0 a.1 in
    found_in bytes (front_letters bytes ++ past_letters bytes) c rest (run_parts ends_letters bytes) (act_found a.0 (front_letters bytes) (past_letters bytes) c rest (not_function a.0 word.1) (record { named = word.0 }) a.2)

functions_found : (bytes : List ℕ) (c : Command) (rest : List ℕ) → functions_at bytes ≡ Some (c, rest) → FoundOf IsCommand (36 ∷ bytes) c rest
unfolding functions_at
functions_found bytes c rest e =
    let a = and_then_some {B = Command × List ℕ} (function_of (front_letters bytes)) (λ word. behind_function word (past_letters bytes)) (c, rest) e in
    let word = function_word (front_letters bytes) a.0 a.1 in
    found_in (36 ∷ bytes) (36 ∷ (front_letters bytes ++ past_letters bytes)) c rest (ap (λ u. 36 ∷ u) (run_parts ends_letters bytes)) (function_found a.0 (front_letters bytes) (past_letters bytes) c rest word.1 (record { named = word.0 }) a.2)

pub command_found : (bytes : List ℕ) (c : Command) (rest : List ℕ) → command_at bytes ≡ Some (c, rest) → FoundOf IsCommand bytes c rest
unfolding command_at
command_found bytes c rest e = at (begins_with_byte 36 bytes) refl e
  where
    at : (t : Bool) → begins_with_byte 36 bytes ≡ t → cond t (functions_at (drop 1 bytes)) (acts_at bytes) ≡ Some (c, rest) → FoundOf IsCommand bytes c rest
    at true f e = let found = functions_found (drop 1 bytes) c rest e in record { text = found.text; form = found.form; parts = begins 36 bytes f ∙ found.parts }
    at false f e = acts_found bytes c rest e

caret_ends : (text : List ℕ) → begins_with_byte 94 text ≡ true → Ends ends_blank text
caret_ends [] e = absurd cc
caret_ends (b ∷ bs) e = rw (eqb-true b 94 e) refl

letters_plain : (letters : List ℕ) → list_all is_ascii_alphabetic letters ≡ true → (rest : List ℕ) → begins_with_byte 36 rest ≡ false → begins_with_byte 36 (letters ++ rest) ≡ false
letters_plain [] all rest other = other
letters_plain (b ∷ bs) all rest other = no_dollar b (and_parts (is_ascii_alphabetic b) _ all).0
  where
    no_dollar : (b : ℕ) → is_ascii_alphabetic b ≡ true → (b == 36) ≡ false
    no_dollar b e = grind (arith, nat_tests)

blank_dollar : (blank rest : List ℕ) → IsBlank blank → begins_with_byte 36 (blank ++ rest) ≡ false
blank_dollar [] rest h = absurd (omega (arith, h.some))
blank_dollar (b ∷ bs) rest h = elim (or_cases (b == 32) (b == 9) (and_parts (is_blank b) _ h.bytes).0) [
  | inl p ↦ rw (eqb-true b 32 p) refl
  | inr p ↦ rw (eqb-true b 9 p) refl
]

-- a blank at the end of a line, or nothing
tail_parts : (tail : List ℕ) → list_all is_blank tail ≡ true → Ends ends_letters tail × Ends digits_end tail × (begins_with_byte 36 tail ≡ false) × (begins_with_byte 58 tail ≡ false) × (begins_with_byte 46 tail ≡ false)
tail_parts [] e = (tt, tt, refl, refl, refl)
tail_parts (b ∷ bs) e = elim (or_cases (b == 32) (b == 9) (and_parts (is_blank b) _ e).0) [
  | inl p ↦ rw (eqb-true b 32 p) (refl, refl, refl, refl, refl)
  | inr p ↦ rw (eqb-true b 9 p) (refl, refl, refl, refl, refl)
]

tail_read : (tail : List ℕ) → list_all is_blank tail ≡ true → past_blank tail ≡ []
tail_read tail e =
    let p = run_is ends_blank is_blank blank_kind tail [] e tt in
    ap past_blank (sym (append-nil tail)) ∙ p.1

-- after letters that are a word stands no letter
act_read : (word : Word) (letters more : List ℕ) (c : Command) (rest : List ℕ) → is_function word ≡ false → IsWord word letters → Ends ends_letters more → begins_with_byte 36 more ≡ false → behind_act word more ≡ Some (c, rest) → command_at (letters ++ more) ≡ Some (c, rest)
unfolding command_at acts_at
act_read word letters more c rest kind is ends other behind =
    let all = named_letters word letters is.named in
    let p = run_is ends_letters is_ascii_alphabetic letters_kind letters more all ends in
    rw (letters_plain letters all more other, p.0, p.1, act_named word letters kind is.named) behind

function_read : (word : Word) (letters more : List ℕ) (c : Command) (rest : List ℕ) → is_function word ≡ true → IsWord word letters → Ends ends_letters more → behind_function word more ≡ Some (c, rest) → command_at (36 ∷ (letters ++ more)) ≡ Some (c, rest)
unfolding command_at functions_at
function_read word letters more c rest kind is ends behind =
    let p = run_is ends_letters is_ascii_alphabetic letters_kind letters more (named_letters word letters is.named) ends in
    rw (p.0, p.1, function_named word letters kind is.named) behind

change_read : (word : DataWord) (letters blank text : List ℕ) (c : DataCommand) (rest : List ℕ) → is_function (words.Access word) ≡ false → IsWord (words.Access word) letters → IsBlank blank → IsOperands word text c → Stops rest → command_at ((letters ++ (blank ++ text)) ++ rest) ≡ Some (Access c, rest)
change_read word letters blank text c rest kind is parted form stops =
    let regrouped : (letters ++ (blank ++ text)) ++ rest ≡ letters ++ (blank ++ (text ++ rest)) = append_assoc letters (blank ++ text) rest ∙ ap (λ u. letters ++ u) (append_assoc blank text rest) in
    let behind : behind_act (words.Access word) (blank ++ (text ++ rest)) ≡ Some (Access c, rest) =
    rw (blank_read blank (text ++ rest) parted (caret_ends (text ++ rest) (operands_begin word text c rest form)), operands_read word text c rest form stops) refl in
    ap command_at regrouped ∙ act_read (words.Access word) letters (blank ++ (text ++ rest)) (Access c) rest kind is (blank_ends blank (text ++ rest) parted).0 (blank_dollar blank (text ++ rest) parted) behind

look_read : (word : DataWord) (letters text : List ℕ) (c : DataCommand) (rest : List ℕ) → is_function (words.Access word) ≡ true → IsWord (words.Access word) letters → IsOperands word text c → command_at ((36 ∷ (letters ++ (40 ∷ (text ++ 41 ∷ [])))) ++ rest) ≡ Some (Access c, rest)
look_read word letters text c rest kind is form =
    let regrouped : (letters ++ (40 ∷ (text ++ 41 ∷ []))) ++ rest ≡ letters ++ (40 ∷ (text ++ 41 ∷ rest)) = append_assoc letters (40 ∷ (text ++ 41 ∷ [])) rest ∙ ap (λ u. letters ++ (40 ∷ u)) (append_assoc text (41 ∷ []) rest) in
    let behind : behind_function (words.Access word) (40 ∷ (text ++ 41 ∷ rest)) ≡ Some (Access c, rest) =
    rw (operands_read word text c (41 ∷ rest) form (record { literal = refl; reference = refl; comma = refl })) refl in
    ap (λ u. command_at (36 ∷ u)) regrouped ∙ function_read (words.Access word) letters (40 ∷ (text ++ 41 ∷ rest)) (Access c) rest kind is refl behind

-- a LOCK's names begin with no blank
names_end : (text : List ℕ) → begins_with_byte 32 text ≡ false → begins_with_byte 9 text ≡ false → Ends ends_blank text
names_end [] e f = tt
names_end (b ∷ bs) e f = rw (e, f) refl

locking_ends : (text : List ℕ) (c : LockCommand) (rest : List ℕ) → IsLocking text c → Ends ends_blank (text ++ rest)
locking_ends text c rest form = names_end (text ++ rest) (locking_opens 32 text c rest refl refl refl refl refl form) (locking_opens 9 text c rest refl refl refl refl refl form)

some_left : (text rest : List ℕ) → 0 < length text → (length (text ++ rest) == 0) ≡ false
some_left text rest some = some_test (text ++ rest) (omega (arith, some, length-append text rest))

lock_read : (blank text : List ℕ) (c : LockCommand) (rest : List ℕ) → IsBlank blank → IsLocking text c → list_all is_blank rest ≡ true → lock_at (blank ++ (text ++ rest)) ≡ Some (Lock c, rest)
unfolding lock_at
lock_read blank text c rest parted form ended =
    let tail = tail_parts rest ended in
    let ends = locking_ends text c rest form in
    let p = run_is ends_blank is_blank blank_kind blank (text ++ rest) parted.bytes ends in
    let left : (length (past_blank (blank ++ (text ++ rest))) == 0) ≡ false = ap (λ (u : List ℕ). length u == 0) p.1 ∙ some_left text rest (locking_some text c form) in
    rw (left, blank_read blank (text ++ rest) parted ends, locking_read text c rest form (blank_stops rest ended).reference tail.3 tail.4 tail.1) refl

names_read : (letters blank text : List ℕ) (c : LockCommand) (rest : List ℕ) → IsWord words.Lock letters → IsBlank blank → IsLocking text c → list_all is_blank rest ≡ true → command_at ((letters ++ (blank ++ text)) ++ rest) ≡ Some (Lock c, rest)
names_read letters blank text c rest is parted form ended =
    let regrouped : (letters ++ (blank ++ text)) ++ rest ≡ letters ++ (blank ++ (text ++ rest)) = append_assoc letters (blank ++ text) rest ∙ ap (λ u. letters ++ u) (append_assoc blank text rest) in
    ap command_at regrouped ∙ act_read words.Lock letters (blank ++ (text ++ rest)) (Lock c) rest refl is (blank_ends blank (text ++ rest) parted).0 (blank_dollar blank (text ++ rest) parted) (lock_read blank text c rest parted form ended)

release_read : (rest : List ℕ) → list_all is_blank rest ≡ true → lock_at rest ≡ Some (Lock Release, rest)
unfolding lock_at
release_read rest ended = rw (tail_read rest ended) refl

-- before the end of a line each command is read
pub command_read : {text : List ℕ} {c : Command} (rest : List ℕ) → list_all is_blank rest ≡ true → IsCommand text c → command_at (text ++ rest) ≡ Some (c, rest)
command_read rest ended (act {word} {letters} {blank} {text} {c} kind is parted form) = change_read word letters blank text c rest kind is parted form (blank_stops rest ended)
command_read rest ended (function {word} {letters} {text} {c} kind is form) = look_read word letters text c rest kind is form
command_read rest ended (release {letters} is) = let tail = tail_parts rest ended in act_read words.Lock letters rest (Lock Release) rest refl is tail.0 tail.2 (release_read rest ended)
command_read rest ended (lock {letters} {blank} {text} {c} is parted form) = names_read letters blank text c rest is parted form ended
command_read rest ended (alone {word} {letters} kind is) = let tail = tail_parts rest ended in act_read (words.Alone word) letters rest (command_of word) rest kind is tail.0 tail.2 refl
command_read rest ended (function_alone {word} {letters} kind is) = let tail = tail_parts rest ended in function_read (words.Alone word) letters rest (command_of word) rest kind is tail.0 refl

-- lines

blank_tail : (tail : List ℕ) → length (past_blank tail) ≡ 0 → list_all is_blank tail ≡ true
blank_tail tail e =
    let all : tail ≡ take (position_or_len ends_blank tail) tail = run_parts ends_blank tail ∙ ap (λ u. take (position_or_len ends_blank tail) tail ++ u) (nil_from_length (past_blank tail) e) ∙ append-nil (take (position_or_len ends_blank tail) tail) in
    ap (list_all is_blank) all ∙ run_passes ends_blank is_blank blank_kind tail

form_is : (text : List ℕ) (x c : Command) → x ≡ c → IsCommand text x → IsCommand text c
form_is text x c e form = rw (← e) form

spelled_found : (line : List ℕ) (c : Command) → spelled_by line ≡ Some c → IsLine line (number_from 0 (front_digits line)) c
unfolding spelled_by
spelled_found line c e = at (length (front_digits line) == 0) refl e
  where
    at : (t : Bool) → (length (front_digits line) == 0) ≡ t → cond t None (blank_at (past_digits line) >>= λ rest. command_at rest >>= λ command. end_of command) ≡ Some c → IsLine line (number_from 0 (front_digits line)) c
    at true f e = absurd cc
    at false f e =
        let a = and_then_some (blank_at (past_digits line)) (λ rest. command_at rest >>= λ command. end_of command) c e in
        let b = and_then_some (command_at a.0) (λ command. end_of command) c a.2 in
        let g = cond_some (length (past_blank b.0.1) == 0) b.0.0 c b.2 in
        let blank = blank_found (past_digits line) a.0 a.1 in
        let found = command_found a.0 b.0.0 b.0.1 b.1 in
        let parts : line ≡ front_digits line ++ (blank.0 ++ (found.text ++ b.0.1)) = run_parts digits_end line ∙ ap (λ u. front_digits line ++ u) (blank.2 ∙ ap (λ u. blank.0 ++ u) found.parts) in
        let spelled : IsCommand found.text c = form_is found.text b.0.0 c g.1 found.form in
        record {
          digits = front_digits line;
          blank = blank.0;
          command = found.text;
          tail = b.0.1;
          numbered = run_passes digits_end is_ascii_digit digits_kind line;
          some = some_length (front_digits line) f;
          number = refl;
          parted = blank.1;
          spelled = spelled;
          ended = blank_tail b.0.1 (eqb-true (length (past_blank b.0.1)) 0 g.0);
          parts = parts;
        }

-- a command begins with no blank
letter_ends : (b : ℕ) → is_ascii_alphabetic b ≡ true → ends_blank b ≡ true
letter_ends b e = grind (arith, nat_tests)

word_ends : (letters rest : List ℕ) (word : Word) → list_all is_ascii_alphabetic letters ≡ true → act_of letters ≡ Some word → Ends ends_blank (letters ++ rest)
word_ends [] rest word all e = absurd cc
word_ends (b ∷ bs) rest word all e = letter_ends b (and_parts (is_ascii_alphabetic b) _ all).0

named_ends : (word : Word) (letters rest : List ℕ) → is_function word ≡ false → IsWord word letters → Ends ends_blank (letters ++ rest)
named_ends word letters rest kind is = word_ends letters rest word (named_letters word letters is.named) (act_named word letters kind is.named)

command_ends : {text : List ℕ} {c : Command} (rest : List ℕ) → IsCommand text c → Ends ends_blank (text ++ rest)
command_ends rest (act {word} {letters} {blank} {text} kind is parted form) = rw (append_assoc letters (blank ++ text) rest) (named_ends (words.Access word) letters ((blank ++ text) ++ rest) kind is)
command_ends rest (function kind is form) = refl
command_ends rest (release {letters} is) = named_ends words.Lock letters rest refl is
command_ends rest (lock {letters} {blank} {text} is parted form) = rw (append_assoc letters (blank ++ text) rest) (named_ends words.Lock letters ((blank ++ text) ++ rest) refl is)
command_ends rest (alone {word} {letters} kind is) = named_ends (words.Alone word) letters rest kind is
command_ends rest (function_alone kind is) = refl

line_read : (blank text tail : List ℕ) (c : Command) → IsBlank blank → IsCommand text c → list_all is_blank tail ≡ true → (blank_at (blank ++ (text ++ tail)) >>= λ rest. command_at rest >>= λ command. end_of command) ≡ Some c
line_read blank text tail c parted spelled ended =
    ap (λ (r : Option (List ℕ)). r >>= λ rest. command_at rest >>= λ command. end_of command) (blank_read blank (text ++ tail) parted (command_ends tail spelled))
    ∙ ap (λ (r : Option (Command × List ℕ)). r >>= λ command. end_of command) (command_read tail ended spelled)
    ∙ ap (λ (t : List ℕ). cond (length t == 0) (Some c) None) (tail_read tail ended)

-- the digits and the command of a line
pub record IsSplit (line : List ℕ) (job : ℕ) (c : Command) : Type 0 where
  pub number : number_from 0 (front_digits line) ≡ job
  pub command : spelled_by line ≡ Some c

spelled_by_parts : (line digits rest : List ℕ) (c : Command) → front_digits line ≡ digits → past_digits line ≡ rest → (length digits == 0) ≡ false → (blank_at rest >>= λ rest. command_at rest >>= λ command. end_of command) ≡ Some c → spelled_by line ≡ Some c
unfolding spelled_by
spelled_by_parts line digits rest c e f some h = rw (e, f, some) h

pub spelled_read : (line : List ℕ) (job : ℕ) (c : Command) → IsLine line job c → IsSplit line job c
spelled_read line job c h =
    let rest : List ℕ = h.blank ++ (h.command ++ h.tail) in
    let p = run_is digits_end is_ascii_digit digits_kind h.digits rest h.numbered (blank_ends h.blank (h.command ++ h.tail) h.parted).1 in
    let front : front_digits line ≡ h.digits = ap front_digits h.parts ∙ p.0 in
    let past : past_digits line ≡ rest = ap past_digits h.parts ∙ p.1 in
    record {
      number = ap (number_from 0) front ∙ sym h.number;
      command = spelled_by_parts line h.digits rest c front past (some_test h.digits h.some) (line_read h.blank h.command h.tail c h.parted h.spelled h.ended);
    }

pub line_judged : (line : List ℕ) (job : ℕ) (c : Command) → IsLine line job c → reading_of line ≡ judged job (Some c)
unfolding reading_of
line_judged line job c h =
    let s = spelled_read line job c h in
    ap (λ (n : ℕ). judged n (spelled_by line)) s.number ∙ ap (judged job) s.command

judged_ok : (n job : ℕ) (c d : Command) (t : Bool) (fault : Option Refusal) → is_job n ≡ t → command_fault c ≡ fault → cond t (unless {A = ℕ × Command} fault (n, c)) (Err BadJob) ≡ Ok (job, d) → (is_job job ≡ true) × (command_fault d ≡ None) × (n ≡ job) × (c ≡ d)
judged_ok n job c d true None e f h =
    let p = some_pair_parts n job c d (ok_some h) in
    (ap is_job (sym p.0) ∙ e, ap command_fault (sym p.1) ∙ f, p.0, p.1)
  where
    ok_some : {A : Type 0} {x y : A} → ◌≡◌ {A = Result A Refusal} (Ok x) (Ok y) → ◌≡◌ {A = Option A} (Some x) (Some y)
    ok_some {A} {x} {y} h = let same : x ≡ y = cc in ap (λ (z : A). Some z) same
judged_ok n job c d true (Some r) e f h = absurd cc
judged_ok n job c d false fault e f h = absurd cc

line_is : (line : List ℕ) (n job : ℕ) (c d : Command) → n ≡ job → c ≡ d → IsLine line n c → IsLine line job d
line_is line n job c d e f h = rw (← e, ← f) h

pub line_spelled : (line : List ℕ) (job : ℕ) (d : Command) → reading_of line ≡ Ok (job, d) → IsLine line job d × (is_job job ≡ true) × (command_fault d ≡ None)
unfolding reading_of
line_spelled line job d e = at (spelled_by line) refl e
  where
    at : (s : Option Command) → spelled_by line ≡ s → judged (number_from 0 (front_digits line)) s ≡ Ok (job, d) → IsLine line job d × (is_job job ≡ true) × (command_fault d ≡ None)
    at None f h = absurd cc
    at (Some c) f h =
        let n : ℕ = number_from 0 (front_digits line) in
        let p = judged_ok n job c d (is_job n) (command_fault c) refl refl h in
        (line_is line n job c d p.2 p.3 (spelled_found line c f), p.0, p.1)

-- no command's fault is that of a line

abbrev IsNone : Option Refusal → Type 0
IsNone fault = fault ≡ Some BadLine → ⊥

or_none : (a b : Option Refusal) → IsNone a → IsNone b → IsNone (option_or a b)
or_none None b p q = q
or_none (Some f) b p q = p

subscripts_none : (ss : List (List ℕ)) → IsNone (subscripts_fault ss)
subscripts_none [] = λ e. cc
subscripts_none (s ∷ ss) = at (length s == 0) _ (subscripts_none ss)
  where
    at : (t u : Bool) → IsNone (subscripts_fault ss) → IsNone (cond t (Some EmptySubscript) (cond u (Some SubscriptTooLong) (subscripts_fault ss)))
    at true u ih = λ e. cc
    at false true ih = λ e. cc
    at false false ih = ih

reference_none : (t : Bool) (ss : List (List ℕ)) → IsNone (cond t (Some TooManySubscripts) (subscripts_fault ss))
reference_none true ss = λ e. cc
reference_none false ss = subscripts_none ss

name_none : (name : List ℕ) → IsNone (name_fault name)
name_none name = at (is_name name)
  where
    at : (t : Bool) → IsNone (cond t None (Some BadName))
    at true = λ e. cc
    at false = λ e. cc

ref_none : (r : Reference) → IsNone (ref_fault r)
ref_none r = or_none (name_fault r.name) (reference_fault r.subscripts) (name_none r.name) (reference_none (nat_lt most_subscripts (length r.subscripts)) r.subscripts)

spot_none : (p : Spot) → IsNone (spot_fault p)
spot_none p = or_none (name_fault p.reference.name) _ (name_none p.reference.name) (at (nat_lt most_subscripts (subscript_count p)))
  where
    at : (t : Bool) → IsNone (cond t (Some TooManySubscripts) (reference_fault p.reference.subscripts))
    at true = λ e. cc
    at false = reference_none (nat_lt most_subscripts (length p.reference.subscripts)) p.reference.subscripts

value_none : (value : List ℕ) → IsNone (value_fault value)
value_none value = at (nat_lt most_value_bytes (length value))
  where
    at : (t : Bool) → IsNone (cond t (Some ValueTooLong) None)
    at true = λ e. cc
    at false = λ e. cc

default_none : (d : Option (List ℕ)) → IsNone (option_and_then value_fault d)
default_none None = λ e. cc
default_none (Some value) = value_none value

start_none : (start : Option (List ℕ)) → IsNone (option_and_then name_fault start)
start_none None = λ e. cc
start_none (Some name) = name_none name

look_none : (c : LookCommand) → IsNone (look_fault c)
look_none (Data r) = ref_none r
look_none (Get r d) = or_none (ref_fault r) (option_and_then value_fault d) (ref_none r) (default_none d)
look_none (Order p d) = spot_none p
look_none (Query p d) = spot_none p
look_none (Name start d) = start_none start

data_none : (c : DataCommand) → IsNone (data_fault c)
data_none (Set r value) = or_none (ref_fault r) (value_fault value) (ref_none r) (value_none value)
data_none (Kill r extent) = ref_none r
data_none (Merge r s) = or_none (ref_fault r) (ref_fault s) (ref_none r) (ref_none s)
data_none (Increment r number) = or_none (ref_fault r) (value_fault number) (ref_none r) (value_none number)
data_none (Look look) = look_none look

names_none : (ns : List Resource) → IsNone (names_fault ns)
names_none [] = λ e. cc
names_none (n ∷ ns) = or_none (ref_fault n.reference) (names_fault ns) (ref_none n.reference) (names_none ns)

lock_none : (c : LockCommand) → IsNone (lock_fault c)
lock_none Release = λ e. cc
lock_none (Only ns) = names_none ns
lock_none (More ns) = names_none ns
lock_none (Fewer ns) = names_none ns

fault_none : (c : Command) → IsNone (command_fault c)
fault_none (Access c) = data_none c
fault_none (Lock c) = lock_none c
fault_none Start = λ e. cc
fault_none Commit = λ e. cc
fault_none Rollback = λ e. cc
fault_none Restart = λ e. cc
fault_none Level = λ e. cc
fault_none Restarts = λ e. cc
fault_none Halt = λ e. cc

pub line_not_spelled : (line : List ℕ) (job : ℕ) (c : Command) → reading_of line ≡ Err BadLine → IsLine line job c → ⊥
line_not_spelled line job c e h = at (is_job job) (command_fault c) refl (sym (line_judged line job c h) ∙ e)
  where
    at : (t : Bool) (fault : Option Refusal) → command_fault c ≡ fault → cond t (unless {A = ℕ × Command} fault (job, c)) (Err BadJob) ≡ Err BadLine → ⊥
    at true None f g = cc
    at true (Some r) f g = let same : r ≡ BadLine = cc in fault_none c (f ∙ ap (λ (x : Refusal). Some x) same)
    at false fault f g = cc

pub line_unspelled : (line : List ℕ) → ((job : ℕ) (c : Command) → IsLine line job c → ⊥) → reading_of line ≡ Err BadLine
unfolding reading_of
line_unspelled line none = at (spelled_by line) refl
  where
    at : (s : Option Command) → spelled_by line ≡ s → judged (number_from 0 (front_digits line)) s ≡ Err BadLine
    at None f = refl
    at (Some c) f = absurd (none (number_from 0 (front_digits line)) c (spelled_found line c f))
