use Rattle.shared_engine.proofs.Stepping.{halts_exact}
use Rattle.shared_engine.proofs.steps.halts_are_exact.Goals as goal

pub returns : goal.returns
returns c = halts_exact
