use Rattle.std.proofs.Common.{◌≡◌, ◌<◌, length, sym, ap, ◌∙◌, arith, ◌++◌}
use Rattle.std.proofs.lemmas.Bool.Decides.{nat_tests}
use Rattle.canonic_number.proofs.Zeros.{before_zeros-fraction, before_zeros-whole}
use Rattle.canonic_number.proofs.place.first_digits.Goals as goal

pub returns-then-is_empty : goal.returns-then-is_empty
returns-then-is_empty c =
    let none : length c.args.fraction.now ≡ 0 = grind (arith, nat_tests, c.is_empty.ensures, c.if-is_empty.true) in
    ap (λ t. t ++ c.args.fraction.now) c.before_zeros.ensures ∙ before_zeros-whole c.args.whole.now c.args.fraction.now none

pub returns-else-is_empty : goal.returns-else-is_empty
returns-else-is_empty c =
    let some : 0 < length c.args.fraction.now = grind (arith, nat_tests, c.is_empty.ensures, c.if-is_empty.false) in
    sym (before_zeros-fraction c.args.whole.now c.args.fraction.now some c.requires)
