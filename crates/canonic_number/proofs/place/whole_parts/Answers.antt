use Rattle.std.proofs.Common.{◌++◌, inr, refl, ap, ◌∙◌, arith}
use Rattle.canonic_number.proofs.Zeros.{significant-digits, place-digits}
use Rattle.canonic_number.proofs.place.whole_parts.Goals as goal

pub returns-clause-parts : goal.returns-clause-parts
returns-clause-parts c =
    let n = c.in_ok-negative.field-0 in
    let of = c.in_ok-negative.ensures.parts in
    let none = c.in_ok-negative.ensures.fraction in
    record {
      sign = of.negative;
      digits = ap (λ t. t ++ n.fraction.now) c.before_zeros.ensures ∙ significant-digits n.whole.now n.fraction.now none of.form.digits.begins ∙ of.digits;
      place = λ k. place-digits k n.whole.now n.fraction.now none of.form.digits.begins ∙ of.place k;
      whole_short = of.whole_short;
      zeros_short = omega (arith, of.short);
      one_none = inr refl;
    }
