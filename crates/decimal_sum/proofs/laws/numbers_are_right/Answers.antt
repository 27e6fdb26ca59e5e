use Rattle.decimal_sum.specs.laws.Sums.{numbers_are_right, one_number, canonic_is_own, canonic_stays}
use Rattle.decimal_sum.proofs.laws.numbers_are_right.Goals as goal

pub returns-clause-right : goal.returns-clause-right
returns-clause-right c = numbers_are_right

pub returns-clause-one : goal.returns-clause-one
returns-clause-one c = one_number

pub returns-clause-own : goal.returns-clause-own
returns-clause-own c = canonic_is_own

pub returns-clause-stays : goal.returns-clause-stays
returns-clause-stays c = canonic_stays
