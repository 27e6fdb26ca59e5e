-- What is read with nothing before it.
use Rattle.m_text.specs.laws.Reading.{with_front-nil}

pub ruleset from_nothing = with_front-nil
