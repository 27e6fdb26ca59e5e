use Rattle.shared_engine.proofs.Stepping.{steps_exact}
use Rattle.shared_engine.proofs.steps.steps_are_exact.Goals as goal

pub returns : goal.returns
returns c = steps_exact
