-- Where a run of bytes ends.
use Rattle.std.proofs.Common.{◌≡◌, ℕ, suc, ◌<◌, ◌+◌, Bool, true, false, cond, ltb, List, [], ◌∷◌, length, drop, Some, None, arith, refl, sym, ap, ap₂, ◌∙◌, zero-add, length-take-le}
use Rattle.std.proofs.Math.Numerals.{one-add}
use Rattle.std.proofs.lemmas.Bool.{ltb-true, ltb-false}
use Rattle.std.proofs.lemmas.List.Sums.{prefix_len-le-length}
use Rattle.std.specs.Prelude.{not}
use Rattle.std.specs.Char.{is_ascii_alphabetic}
use Rattle.std.specs.List.{position, position_or_len}
use Rattle.m_text.specs.Literal.{ends_letters, front_letters, past_letters}
use Rattle.m_text.specs.Place.{ends_word}

pub ends_nowhere : (p : ℕ → Bool) (xs : List ℕ) → position p xs ≡ None → length xs ≡ position_or_len p xs
ends_nowhere p xs e = at (ltb (position_or_len p xs) (length xs)) refl e
  where
    at : (t : Bool) → ltb (position_or_len p xs) (length xs) ≡ t → cond t (Some (position_or_len p xs)) None ≡ None → length xs ≡ position_or_len p xs
    at true h e = absurd cc
    at false h e = omega (arith, ltb-false (position_or_len p xs) (length xs) h, prefix_len-le-length (λ x. not (p x)) xs)

pub ends_at : (p : ℕ → Bool) (xs : List ℕ) (n : ℕ) → position p xs ≡ Some n → (position_or_len p xs ≡ n) × (n < length xs)
ends_at p xs n e = at (ltb (position_or_len p xs) (length xs)) refl e
  where
    at : (t : Bool) → ltb (position_or_len p xs) (length xs) ≡ t → cond t (Some (position_or_len p xs)) None ≡ Some n → (position_or_len p xs ≡ n) × (n < length xs)
    at true h e =
        let same : position_or_len p xs ≡ n = cc in
        let within : position_or_len p xs < length xs = ltb-true _ _ h in
        (same, omega arith)
    at false h e = absurd cc

suc_add : (k m : ℕ) → suc k + m ≡ suc (k + m)
suc_add k m = omega arith

-- a word goes on behind its letters
word_goes_on : (xs : List ℕ) → position_or_len ends_word xs ≡ position_or_len ends_letters xs + position_or_len ends_word (drop (position_or_len ends_letters xs) xs)
word_goes_on [] = refl
word_goes_on (b ∷ bs) = at (is_ascii_alphabetic b) refl (word_goes_on bs)
  where
    at : (t : Bool) → is_ascii_alphabetic b ≡ t → position_or_len ends_word bs ≡ position_or_len ends_letters bs + position_or_len ends_word (drop (position_or_len ends_letters bs) bs)
        → position_or_len ends_word (b ∷ bs) ≡ position_or_len ends_letters (b ∷ bs) + position_or_len ends_word (drop (position_or_len ends_letters (b ∷ bs)) (b ∷ bs))
    at true h on =
        let word : position_or_len ends_word (b ∷ bs) ≡ suc (position_or_len ends_word bs) = rw h (one-add _) in
        let letters : position_or_len ends_letters (b ∷ bs) ≡ suc (position_or_len ends_letters bs) = rw h (one-add _) in
        word ∙ ap suc on ∙ sym (suc_add (position_or_len ends_letters bs) (position_or_len ends_word (drop (position_or_len ends_letters bs) bs)))
        ∙ ap (λ n. n + position_or_len ends_word (drop n (b ∷ bs))) (sym letters)
    at false h on = let none : position_or_len ends_letters (b ∷ bs) ≡ 0 = rw h refl in rw none (sym (zero-add _))

-- how long a word is, by its letters and by what follows them
pub word_len_is : (text letters rest : List ℕ) (n : ℕ) → letters ≡ front_letters text → rest ≡ past_letters text → n ≡ position_or_len ends_word rest → length letters + n ≡ position_or_len ends_word text
word_len_is text letters rest n front past more =
    ap₂ (λ a b. a + b) (ap length front ∙ length-take-le (position_or_len ends_letters text) text (prefix_len-le-length (λ b. not (ends_letters b)) text)) (more ∙ ap (position_or_len ends_word) past)
    ∙ sym (word_goes_on text)
