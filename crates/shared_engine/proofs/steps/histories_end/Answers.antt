use Rattle.shared_engine.proofs.Histories.{end}
use Rattle.shared_engine.proofs.steps.histories_end.Goals as goal

pub returns : goal.returns
returns c = end
