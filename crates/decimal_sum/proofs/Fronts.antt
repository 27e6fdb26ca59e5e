-- The number that a text begins with, without the zeros that don't count.
use Rattle.std.proofs.Common.{◌≡◌, ℕ, ◌+◌, Bool, true, false, not, cond, List, [], ◌∷◌, length, take, refl, ap, ◌∙◌}
use Rattle.std.proofs.Math.Numerals.{one-add}
use Rattle.std.specs.Prelude.{◌==◌}
use Rattle.std.specs.List.{list_all, position_or_len}
use Rattle.std.specs.Char.{is_ascii_digit}
use Rattle.canonic_number.specs.Place.{after_zeros, before_zeros}
use Rattle.canonic_number.specs.Parts.{is_no_digit}
use Rattle.canonic_number.specs.declared.read.Numeral.{Numeral}
use Rattle.canonic_number.specs.laws.Place.{after_zeros-digits, before_zeros-digits, before_zeros-ended, length-before_zeros}
use Rattle.decimal_sum.specs.Front.{is_negated, after_signs, front_digits, past_digits, point_digits, front_whole, front_fraction, with_sign}
use Rattle.decimal_sum.specs.Columns.{IsFrontOf}
use Rattle.decimal_sum.specs.laws.Worth.{worth_after_zeros, worth_before_zeros, after_zeros-begins}

pub front_are_digits : (s : List ℕ) → list_all is_ascii_digit (front_digits s) ≡ true
front_are_digits [] = refl
front_are_digits (d ∷ ds) = at (is_ascii_digit d) refl (front_are_digits ds)
  where
    at : (t : Bool) → is_ascii_digit d ≡ t → list_all is_ascii_digit (take (position_or_len is_no_digit ds) ds) ≡ true → list_all is_ascii_digit (take (cond (not (not t)) (1 + position_or_len is_no_digit ds) 0) (d ∷ ds)) ≡ true
    at true e ih = rw (one-add, e) ih
    at false e ih = refl

point_are_digits : (s : List ℕ) → list_all is_ascii_digit (point_digits s) ≡ true
point_are_digits [] = refl
point_are_digits (b ∷ bs) = elim (b == 46) as (λ t. list_all is_ascii_digit (cond t (front_digits bs) []) ≡ true) [ true ↦ front_are_digits bs | false ↦ refl ]

pub front_of : (s : List ℕ) (n : Numeral) → n.negative ≡ is_negated s → n.whole.now ≡ after_zeros (front_whole s) → n.fraction.now ≡ before_zeros (front_fraction s) → IsFrontOf s n
front_of s n negative whole fraction = record {
  digits = rw (whole, fraction) (record {
    whole_digits = after_zeros-digits (front_whole s) (front_are_digits (after_signs s));
    fraction_digits = before_zeros-digits (front_fraction s) (point_are_digits (past_digits (after_signs s)));
    begins = after_zeros-begins (front_whole s);
    ends = before_zeros-ended (front_fraction s);
  });
  value = λ k. rw (negative, whole, fraction) (ap (with_sign (is_negated s)) (worth_before_zeros (length (after_zeros (front_whole s)) + k) (after_zeros (front_whole s)) (front_fraction s) ∙ worth_after_zeros k (front_whole s) (front_fraction s)));
  short = rw fraction (length-before_zeros (front_fraction s));
}
