use Rattle.script.specs.laws.Words.{one_word}
use Rattle.script.specs.laws.Line.{line_spelled, line_judged, line_not_spelled, line_unspelled}
use Rattle.script.specs.laws.Operands.{none_behind_words}
use Rattle.script.proofs.laws.lines_are_read_as_spelled.Goals as goal

pub returns-clause-found : goal.returns-clause-found
returns-clause-found c = line_spelled

pub returns-clause-again : goal.returns-clause-again
returns-clause-again c = line_judged

pub returns-clause-bad_line : goal.returns-clause-bad_line
returns-clause-bad_line c = line_not_spelled

pub returns-clause-other : goal.returns-clause-other
returns-clause-other c = line_unspelled

pub returns-clause-words : goal.returns-clause-words
returns-clause-words c = one_word

pub returns-clause-alone : goal.returns-clause-alone
returns-clause-alone c = none_behind_words
