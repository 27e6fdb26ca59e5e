use Rattle.std.proofs.Common.{rules}
use Rattle.vorgushan_c.proofs.Called.{called}
use Rattle.vorgushan_c.proofs.steps.vorgushan_tlevel.Goals as goal

pub returns : goal.returns
returns c =
    called _ _ _ _ _ c.deref_mut.result.now c.level-outcome.new.engine c.level-outcome.result (search rules) (search rules) (search rules) c.level-outcome.ensures
