-- The text that is written of what a text begins with.
use Rattle.std.proofs.Common.{◌≡◌, ℕ, ◌+◌, ◌≤◌, List, ◌++◌, length, ap, ◌∙◌, subst, arith, max}
use Rattle.std.specs.Prelude.{◌+ℤ◌}
use Rattle.canonic_number.specs.Number.{worth}
use Rattle.canonic_number.specs.Literal.{shortest}
use Rattle.canonic_number.specs.Place.{after_zeros, before_zeros}
use Rattle.canonic_number.specs.Parts.{numeral_at}
use Rattle.canonic_number.specs.declared.read.Numeral.{Numeral}
use Rattle.canonic_number.specs.laws.Place.{after_zeros-same, before_zeros-same}
use Rattle.decimal_sum.specs.Front.{number_at, front_fraction, with_sign}
use Rattle.decimal_sum.specs.Columns.{IsFrontOf}
use Rattle.decimal_sum.specs.Sums.{IsTextOf, IsNumber, IsSum}
use Rattle.decimal_sum.specs.laws.Texts.{written}
use Rattle.decimal_sum.proofs.Sides.{retold}

pub number_text : (s : List ℕ) (n : Numeral) → IsFrontOf s n → IsNumber s (shortest n.negative n.whole.now n.fraction.now)
number_text s n is =
    let same : shortest n.negative (after_zeros n.whole.now) (before_zeros n.fraction.now) ≡ shortest n.negative n.whole.now n.fraction.now =
    ap (λ w. shortest n.negative w (before_zeros n.fraction.now)) (after_zeros-same n.whole.now is.digits.begins) ∙ ap (shortest n.negative n.whole.now) (before_zeros-same n.fraction.now is.digits.ends) in
    retold _ (length n.fraction.now) (length (front_fraction s)) (λ k. with_sign n.negative (worth (length n.whole.now + k) (n.whole.now ++ n.fraction.now))) (λ k. number_at k s) is.short (λ k _. is.value k)
    (subst (λ t. IsTextOf t (length n.fraction.now) (λ k. with_sign n.negative (worth (length n.whole.now + k) (n.whole.now ++ n.fraction.now)))) same
    (written n.negative n.whole.now n.fraction.now is.digits.whole_digits is.digits.fraction_digits))

pub sum_text : (a b text : List ℕ) (n m : Numeral) → IsFrontOf a n → IsFrontOf b m → IsTextOf text (max (length n.fraction.now) (length m.fraction.now)) (λ k. numeral_at k n +ℤ numeral_at k m) → IsSum a b text
sum_text a b text n m first second is =
    let from : max (length n.fraction.now) (length m.fraction.now) ≤ max (length (front_fraction a)) (length (front_fraction b)) = omega (arith, first.short, second.short) in
    retold text (max (length n.fraction.now) (length m.fraction.now)) (max (length (front_fraction a)) (length (front_fraction b))) (λ k. numeral_at k n +ℤ numeral_at k m) (λ k. number_at k a +ℤ number_at k b)
    from (λ k _. ap (λ x. x +ℤ numeral_at k m) (first.value k) ∙ ap (λ x. number_at k a +ℤ x) (second.value k)) is
