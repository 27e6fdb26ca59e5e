use Rattle.std.proofs.Common.{rules}
use Rattle.vorgushan_c.proofs.Called.{called}
use Rattle.vorgushan_c.proofs.steps.step.Goals as goal

pub returns : goal.returns
returns c =
    called _ _ _ _ _ c.deref_mut.result.now c.run_numbered-outcome.new.engine c.run_numbered-outcome.result (search rules) (search rules) (search rules) c.run_numbered-outcome.ensures
