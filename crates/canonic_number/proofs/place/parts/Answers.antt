use Rattle.std.proofs.Common.{◌≡◌, ◌<◌, ◌+◌, ◌-◌, length, refl, sym, ap, inl, inr, ◌∙◌, arith, ◌++◌}
use Rattle.std.proofs.lemmas.Bool.Decides.{nat_tests}
use Rattle.canonic_number.specs.laws.Place.{length-after_zeros}
use Rattle.canonic_number.proofs.Zeros.{significant-fraction, significant-whole, place-fraction, place-whole}
use Rattle.canonic_number.proofs.place.parts.Goals as goal

pub overflow_sub-result : goal.overflow_sub-result
overflow_sub-result c = omega (arith, length-after_zeros c.in_ok-negative.field-0.fraction.now, ap length c.after_zeros-significant.ensures)

pub returns-then-is_empty-clause-parts : goal.returns-then-is_empty-clause-parts
returns-then-is_empty-clause-parts c =
    let n = c.in_ok-negative.field-0 in
    let of = c.in_ok-negative.ensures.parts in
    let none : length n.whole.now ≡ 0 = grind (arith, nat_tests, c.is_empty.ensures, c.if-is_empty.true) in
    let rest = c.after_zeros-significant.ensures in
    record {
      sign = of.negative;
      digits = ap (λ t. n.whole.now ++ t) rest ∙ sym (significant-fraction n.whole.now n.fraction.now none of.form.digits.ends) ∙ of.digits;
      place = λ k. ap (λ t. 0 + k - (length n.fraction.now - length t)) rest ∙ sym (place-fraction k n.whole.now n.fraction.now none) ∙ of.place k;
      whole_short = omega arith;
      zeros_short = omega (arith, of.short);
      one_none = inl refl;
    }

pub returns-clause-parts : goal.returns-clause-parts
returns-clause-parts c =
    let n = c.in_ok-negative.field-0 in
    let of = c.in_ok-negative.ensures.parts in
    let some : 0 < length n.whole.now = grind (arith, nat_tests, c.is_empty.ensures, c.if-is_empty.false) in
    record {
      sign = of.negative;
      digits = c.first_digits-first.ensures ∙ sym (significant-whole n.whole.now n.fraction.now some of.form.digits.begins) ∙ of.digits;
      place = λ k. sym (place-whole k n.whole.now n.fraction.now some of.form.digits.begins) ∙ of.place k;
      whole_short = of.whole_short;
      zeros_short = omega (arith, of.short);
      one_none = inr refl;
    }
