use Rattle.shared_engine.proofs.Histories.{one_run}
use Rattle.shared_engine.proofs.steps.sessions_are_one_run.Goals as goal

pub returns : goal.returns
returns c = one_run
