use Rattle.std.proofs.Common.{sym, ◌∙◌, arith}
use Rattle.canonic_number.specs.Number.{scale}
use Rattle.collation.specs.laws.Order.{number_first, number_second, no_numbers}
use Rattle.collation.proofs.Subscripts.{numbers_as}
use Rattle.collation.proofs.subscript.cmp_subscript.Goals as goal

pub returns-in-Some-Some : goal.returns-in-Some-Some
returns-in-Some-Some c =
    numbers_as _ _ _ _ _ (sym c.in-Some-Some.ensures.canonic) (sym c.in-Some-Some.ensures'.canonic) c.requires.a_short c.requires.b_short
    (c.in-Some-Some.ensures.parts.value scale) (c.in-Some-Some.ensures'.parts.value scale) c.cmp_numerals.ensures

pub returns-in-Some-None : goal.returns-in-Some-None
returns-in-Some-None c = sym (number_first _ _ (sym c.in-Some-None.ensures.canonic) (sym c.in-Some-None.ensures'.canonic))

pub returns-in-None-Some : goal.returns-in-None-Some
returns-in-None-Some c = sym (number_second _ _ (sym c.in-None-Some.ensures.canonic) (sym c.in-None-Some.ensures'.canonic))

pub returns-in-None-None : goal.returns-in-None-None
returns-in-None-None c = c.cmp.ensures ∙ sym (no_numbers _ _ (sym c.in-None-None.ensures.canonic) (sym c.in-None-None.ensures'.canonic))

pub cmp_numerals-requires-clause-a_short : goal.cmp_numerals-requires-clause-a_short
cmp_numerals-requires-clause-a_short c = omega (arith, c.in-Some-Some.ensures.parts.short)

pub cmp_numerals-requires-clause-b_short : goal.cmp_numerals-requires-clause-b_short
cmp_numerals-requires-clause-b_short c = omega (arith, c.in-Some-Some.ensures'.parts.short)
