use Rattle.decimal_sum.specs.laws.Sums.{sums_are_right, one_sum, canonic_is_added, sums_turn, sums_in_any_order}
use Rattle.decimal_sum.proofs.laws.sums_are_right.Goals as goal

pub returns-clause-right : goal.returns-clause-right
returns-clause-right c = sums_are_right

pub returns-clause-one : goal.returns-clause-one
returns-clause-one c = one_sum

pub returns-clause-canonic : goal.returns-clause-canonic
returns-clause-canonic c = canonic_is_added

pub returns-clause-turned : goal.returns-clause-turned
returns-clause-turned c = sums_turn

pub returns-clause-any_order : goal.returns-clause-any_order
returns-clause-any_order c = sums_in_any_order
