-- A number of digits alone at the front of a text.
use Rattle.std.proofs.Common.{◌≡◌, ℕ, ◌+◌, ◌<◌, Bool, true, false, cond, List, [], ◌∷◌, length, take, drop, refl, ap, arith, zero, suc}
use Rattle.std.proofs.Math.Numerals.{one-add}
use Rattle.std.proofs.lemmas.Bool.Decides.{nat_tests}
use Rattle.std.specs.Prelude.{not, ◌||◌, ◌==◌}
use Rattle.std.specs.Char.{is_ascii_digit}
use Rattle.std.specs.List.{position_or_len}
use Rattle.m_text.specs.Reading.{begins_with_byte}
use Rattle.m_text.specs.Literal.{is_no_digit, ends_number, number_len}

same_end : (m : List ℕ) → begins_with_byte 46 (drop (position_or_len is_no_digit m) m) ≡ false → position_or_len ends_number m ≡ position_or_len is_no_digit m
same_end [] h = refl
same_end (d ∷ ds) h = at (is_ascii_digit d) h (same_end ds)
  where
    at : (t : Bool) → begins_with_byte 46 (drop (cond (not (not t)) (1 + position_or_len is_no_digit ds) 0) (d ∷ ds)) ≡ false → (begins_with_byte 46 (drop (position_or_len is_no_digit ds) ds) ≡ false → position_or_len ends_number ds ≡ position_or_len is_no_digit ds)
        → cond (not (not (t || d == 46))) (1 + position_or_len ends_number ds) 0 ≡ cond (not (not t)) (1 + position_or_len is_no_digit ds) 0
    at true h ih = ap (λ n. 1 + n) (ih (rw one-add at h))
    at false h ih = let other : (d == 46) ≡ false = h in rw other refl

some_digits : (n : ℕ) (text : List ℕ) → (length (take n text) == 0) ≡ false → 0 < n
some_digits zero text e = absurd cc
some_digits (suc n) text e = omega arith

first_digit : (d : ℕ) (ds : List ℕ) → 0 < position_or_len is_no_digit (d ∷ ds) → is_ascii_digit d ≡ true
first_digit d ds h = at (is_ascii_digit d) h
  where
    at : (t : Bool) → 0 < cond (not (not t)) (1 + position_or_len is_no_digit ds) 0 → t ≡ true
    at true h = refl
    at false h = absurd (omega (arith, h))

pub number_whole : (text : List ℕ) → (length (take (position_or_len is_no_digit text) text) == 0) ≡ false → begins_with_byte 46 (drop (position_or_len is_no_digit text) text) ≡ false → number_len text ≡ position_or_len is_no_digit text
number_whole [] some h = absurd cc
number_whole (d ∷ ds) some h =
    let digit : is_ascii_digit d ≡ true = first_digit d ds (some_digits (position_or_len is_no_digit (d ∷ ds)) (d ∷ ds) some) in
    let plain : (d == 45) ≡ false = grind (arith, nat_tests) in
    rw plain (same_end (d ∷ ds) h)
