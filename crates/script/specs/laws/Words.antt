-- Which word letters name: no two rows of the table share a word.
use Rattle.std.proofs.Common.{◌≡◌, ◌⊎◌, inl, inr, ℕ, Bool, true, false, cond, List, [], ◌∷◌, map, Some, refl, sym, ap, ◌∙◌}
use Rattle.std.proofs.lemmas.Bool.{eqb-true, and_parts, or_cases}
use Rattle.std.proofs.lemmas.Option.{same_Some}
use Rattle.std.specs.Prelude.{not, ◌&&◌, ◌||◌, ◌==◌, nat_le}
use Rattle.std.specs.List.{find, list_all}
use Rattle.std.specs.Char.{is_ascii_alphabetic, to_ascii_uppercase}
use Rattle.command.specs.declared.access.Extent.TheVariants as extents
use Rattle.m_text.specs.Literal.{is_word}
use Rattle.m_text.specs.laws.Parts.{word_letters}
use Rattle.script.specs.declared.word.Word.{Word}
use Rattle.script.specs.declared.word.Word.TheVariants as words
use Rattle.script.specs.declared.word.DataWord.TheVariants as data_words
use Rattle.script.specs.declared.word.AloneWord.TheVariants as alone_words
use Rattle.script.specs.Words.{words_of, acts, functions, is_either, is_named, is_function, act_of, function_of}

abbrev capitals : List ℕ → List ℕ
capitals letters = map to_ascii_uppercase letters

abbrev same : List ℕ → List ℕ → Bool
same [] [] = true
same (w ∷ ws) (b ∷ bs) = b == w && same ws bs
same ws bs = false

is_word_by : (ws bs : List ℕ) → is_word ws bs ≡ same ws (capitals bs)
is_word_by [] [] = refl
is_word_by [] (b ∷ bs) = refl
is_word_by (w ∷ ws) [] = refl
is_word_by (w ∷ ws) (b ∷ bs) = ap (λ t. (to_ascii_uppercase b == w) && t) (is_word_by ws bs)

is_word_of : (ws bs : List ℕ) → is_word ws bs ≡ true → capitals bs ≡ ws
is_word_of [] [] e = refl
is_word_of [] (b ∷ bs) e = absurd cc
is_word_of (w ∷ ws) [] e = absurd cc
is_word_of (w ∷ ws) (b ∷ bs) e =
    let p = and_parts (to_ascii_uppercase b == w) _ e in
    ap (λ x. x ∷ capitals bs) (eqb-true _ _ p.0) ∙ ap (λ xs. w ∷ xs) (is_word_of ws bs p.1)

either_by : (short long bs : List ℕ) → is_either short long bs ≡ (same short (capitals bs) || same long (capitals bs))
either_by short long bs = rw (is_word_by short bs, is_word_by long bs) refl

abbrev is_spelled : List ℕ → Word → Bool
is_spelled upper word = same (words_of word).0 upper || same (words_of word).1 upper

either_is : (short long bs : List ℕ) → is_either short long bs ≡ true → (capitals bs ≡ short) ⊎ (capitals bs ≡ long)
either_is short long bs e = elim (or_cases _ _ e) [ inl p ↦ inl (is_word_of short bs p) | inr p ↦ inr (is_word_of long bs p) ]

-- a table is searched by capitals
by_capitals : (table : List Word) (bs : List ℕ) → find (λ w. is_named w bs) table ≡ find (is_spelled (capitals bs)) table
by_capitals table bs = λ i. find (λ w. either_by (words_of w).0 (words_of w).1 bs i) table

found_by : (table : List Word) (word : Word) (bs : List ℕ) → find (is_spelled (words_of word).0) table ≡ Some word → find (is_spelled (words_of word).1) table ≡ Some word → is_named word bs ≡ true → find (λ w. is_named w bs) table ≡ Some word
found_by table word bs p q e = elim (either_is (words_of word).0 (words_of word).1 bs e) [
  | inl f ↦ by_capitals table bs ∙ ap (λ u. find (is_spelled u) table) f ∙ p
  | inr f ↦ by_capitals table bs ∙ ap (λ u. find (is_spelled u) table) f ∙ q
]

-- letters that name an act are read as it
pub act_named : (word : Word) (bs : List ℕ) → is_function word ≡ false → is_named word bs ≡ true → act_of bs ≡ Some word
act_named (words.Access data_words.Set) bs k e = found_by acts (words.Access data_words.Set) bs refl refl e
act_named (words.Access (data_words.Kill extents.All)) bs k e = found_by acts (words.Access (data_words.Kill extents.All)) bs refl refl e
act_named (words.Access (data_words.Kill extents.Value)) bs k e = found_by acts (words.Access (data_words.Kill extents.Value)) bs refl refl e
act_named (words.Access (data_words.Kill extents.Below)) bs k e = found_by acts (words.Access (data_words.Kill extents.Below)) bs refl refl e
act_named (words.Access data_words.Merge) bs k e = found_by acts (words.Access data_words.Merge) bs refl refl e
act_named (words.Access data_words.Increment) bs k e = absurd cc
act_named (words.Access data_words.Data) bs k e = absurd cc
act_named (words.Access data_words.Get) bs k e = absurd cc
act_named (words.Access data_words.Order) bs k e = absurd cc
act_named (words.Access data_words.Query) bs k e = absurd cc
act_named words.Lock bs k e = found_by acts words.Lock bs refl refl e
act_named (words.Alone alone_words.Start) bs k e = found_by acts (words.Alone alone_words.Start) bs refl refl e
act_named (words.Alone alone_words.Commit) bs k e = found_by acts (words.Alone alone_words.Commit) bs refl refl e
act_named (words.Alone alone_words.Rollback) bs k e = found_by acts (words.Alone alone_words.Rollback) bs refl refl e
act_named (words.Alone alone_words.Restart) bs k e = found_by acts (words.Alone alone_words.Restart) bs refl refl e
act_named (words.Alone alone_words.Halt) bs k e = found_by acts (words.Alone alone_words.Halt) bs refl refl e
act_named (words.Alone alone_words.Level) bs k e = absurd cc
act_named (words.Alone alone_words.Restarts) bs k e = absurd cc

-- the same of a function
pub function_named : (word : Word) (bs : List ℕ) → is_function word ≡ true → is_named word bs ≡ true → function_of bs ≡ Some word
function_named (words.Access data_words.Set) bs k e = absurd cc
function_named (words.Access (data_words.Kill extent)) bs k e = absurd cc
function_named (words.Access data_words.Merge) bs k e = absurd cc
function_named (words.Access data_words.Increment) bs k e = found_by functions (words.Access data_words.Increment) bs refl refl e
function_named (words.Access data_words.Data) bs k e = found_by functions (words.Access data_words.Data) bs refl refl e
function_named (words.Access data_words.Get) bs k e = found_by functions (words.Access data_words.Get) bs refl refl e
function_named (words.Access data_words.Order) bs k e = found_by functions (words.Access data_words.Order) bs refl refl e
function_named (words.Access data_words.Query) bs k e = found_by functions (words.Access data_words.Query) bs refl refl e
function_named words.Lock bs k e = absurd cc
function_named (words.Alone alone_words.Start) bs k e = absurd cc
function_named (words.Alone alone_words.Commit) bs k e = absurd cc
function_named (words.Alone alone_words.Rollback) bs k e = absurd cc
function_named (words.Alone alone_words.Restart) bs k e = absurd cc
function_named (words.Alone alone_words.Halt) bs k e = absurd cc
function_named (words.Alone alone_words.Level) bs k e = found_by functions (words.Alone alone_words.Level) bs refl refl e
function_named (words.Alone alone_words.Restarts) bs k e = found_by functions (words.Alone alone_words.Restarts) bs refl refl e

-- what is found passes the test, and what all pass
find_passes : (p q : Word → Bool) (table : List Word) (word : Word) → list_all q table ≡ true → find p table ≡ Some word → (p word ≡ true) × (q word ≡ true)
find_passes p q [] word all e = absurd cc
find_passes p q (w ∷ ws) word all e = let parts = and_parts (q w) (list_all q ws) all in at (p w) refl parts.0 (λ g. find_passes p q ws word parts.1 g) e
  where
    at : (t : Bool) → p w ≡ t → q w ≡ true → (find p ws ≡ Some word → (p word ≡ true) × (q word ≡ true)) → cond t (Some w) (find p ws) ≡ Some word → (p word ≡ true) × (q word ≡ true)
    at true f all ih g = let same : w ≡ word = same_Some w word g in rw (← same) (f, all)
    at false f all ih g = ih g

pub act_word : (bs : List ℕ) (word : Word) → act_of bs ≡ Some word → (is_named word bs ≡ true) × (not (is_function word) ≡ true)
act_word bs word e = find_passes (λ w. is_named w bs) (λ w. not (is_function w)) acts word refl e

pub function_word : (bs : List ℕ) (word : Word) → function_of bs ≡ Some word → (is_named word bs ≡ true) × (is_function word ≡ true)
function_word bs word e = find_passes (λ w. is_named w bs) is_function functions word refl e

-- the letters of a word
abbrev are_capitals : List ℕ → Bool
are_capitals ws = list_all (λ w. nat_le 65 w && nat_le w 90) ws

table_capitals : (word : Word) → (are_capitals (words_of word).0 ≡ true) × (are_capitals (words_of word).1 ≡ true)
table_capitals (words.Access data_words.Set) = (refl, refl)
table_capitals (words.Access (data_words.Kill extents.All)) = (refl, refl)
table_capitals (words.Access (data_words.Kill extents.Value)) = (refl, refl)
table_capitals (words.Access (data_words.Kill extents.Below)) = (refl, refl)
table_capitals (words.Access data_words.Merge) = (refl, refl)
table_capitals (words.Access data_words.Increment) = (refl, refl)
table_capitals (words.Access data_words.Data) = (refl, refl)
table_capitals (words.Access data_words.Get) = (refl, refl)
table_capitals (words.Access data_words.Order) = (refl, refl)
table_capitals (words.Access data_words.Query) = (refl, refl)
table_capitals words.Lock = (refl, refl)
table_capitals (words.Alone alone_words.Start) = (refl, refl)
table_capitals (words.Alone alone_words.Commit) = (refl, refl)
table_capitals (words.Alone alone_words.Rollback) = (refl, refl)
table_capitals (words.Alone alone_words.Restart) = (refl, refl)
table_capitals (words.Alone alone_words.Halt) = (refl, refl)
table_capitals (words.Alone alone_words.Level) = (refl, refl)
table_capitals (words.Alone alone_words.Restarts) = (refl, refl)

pub named_letters : (word : Word) (bs : List ℕ) → is_named word bs ≡ true → list_all is_ascii_alphabetic bs ≡ true
named_letters word bs e = elim (or_cases _ _ e) [
  | inl f ↦ word_letters (words_of word).0 bs (table_capitals word).0 f
  | inr f ↦ word_letters (words_of word).1 bs (table_capitals word).1 f
]

-- two acts, or two functions, that letters name are one
pub one_word : (v w : Word) (bs : List ℕ) → is_function v ≡ is_function w → is_named v bs ≡ true → is_named w bs ≡ true → v ≡ w
one_word v w bs kind e f = at (is_function v) refl
  where
    at : (t : Bool) → is_function v ≡ t → v ≡ w
    at true k = same_Some v w (sym (function_named v bs k e) ∙ function_named w bs (sym kind ∙ k) f)
    at false k = same_Some v w (sym (act_named v bs k e) ∙ act_named w bs (sym kind ∙ k) f)
