use Rattle.shared_engine.proofs.Histories.{begin, begin_again}
use Rattle.shared_engine.proofs.steps.histories_begin.Goals as goal

pub returns-clause-first : goal.returns-clause-first
returns-clause-first c = begin

pub returns-clause-again : goal.returns-clause-again
returns-clause-again c = begin_again
