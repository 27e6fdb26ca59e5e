use Rattle.std.proofs.Common.{rules}
use Rattle.vorgushan_c.proofs.Called.{called}
use Rattle.vorgushan_c.proofs.steps.vorgushan_trestarts.Goals as goal

pub returns : goal.returns
returns c =
    called _ _ _ _ _ c.deref_mut.result.now c.restarts-outcome.new.engine c.restarts-outcome.result (search rules) (search rules) (search rules) c.restarts-outcome.ensures
