use Rattle.canonic_number.specs.Number.{scale}
use Rattle.canonic_number.specs.laws.Digits.{unsigned_above_0, below_positive, above_negative}
use Rattle.canonic_number.proofs.compare.cmp_numerals.Goals as goal

pub returns-in-true-false : goal.returns-in-true-false
returns-in-true-false c =
    let is = c.requires.a_form in
    rw (c.in-true-false.is-0, c.in-true-false.is-1) (below_positive _ _ (unsigned_above_0 scale _ _ is.digits (is.sign c.in-true-false.is-0)))

pub returns-in-false-true : goal.returns-in-false-true
returns-in-false-true c =
    let is = c.requires.b_form in
    rw (c.in-false-true.is-0, c.in-false-true.is-1) (above_negative _ _ (unsigned_above_0 scale _ _ is.digits (is.sign c.in-false-true.is-1)))
