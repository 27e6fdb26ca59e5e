use Rattle.shared_engine.proofs.Histories.{know, go_on, go_on_by}
use Rattle.shared_engine.proofs.steps.histories_go_on.Goals as goal

pub returns-clause-know : goal.returns-clause-know
returns-clause-know c = know

pub returns-clause-step : goal.returns-clause-step
returns-clause-step c = go_on

pub returns-clause-block : goal.returns-clause-block
returns-clause-block c = go_on_by
