-- Canonic texts are numeric literals that stand for themselves.
use Rattle.canonic_number.specs.laws.Literal.{canonic_is_literal, canonic_stays}

pub ruleset canonic_texts = (canonic_is_literal, canonic_stays)
