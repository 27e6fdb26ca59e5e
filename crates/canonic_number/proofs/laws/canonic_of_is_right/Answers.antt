use Rattle.canonic_number.specs.laws.Literal.{answers_are_canonic, answers_keep_the_value, equal_answers, canonic_is_literal, canonic_stays}
use Rattle.canonic_number.proofs.laws.canonic_of_is_right.Goals as goal

pub returns-clause-canonic : goal.returns-clause-canonic
returns-clause-canonic c = answers_are_canonic

pub returns-clause-value : goal.returns-clause-value
returns-clause-value c = answers_keep_the_value

pub returns-clause-one_answer : goal.returns-clause-one_answer
returns-clause-one_answer c = equal_answers

pub returns-clause-literal : goal.returns-clause-literal
returns-clause-literal c = canonic_is_literal

pub returns-clause-same : goal.returns-clause-same
returns-clause-same c = canonic_stays
