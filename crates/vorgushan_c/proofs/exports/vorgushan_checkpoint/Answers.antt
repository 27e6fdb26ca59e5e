use Rattle.std.proofs.Common.{rules}
use Rattle.vorgushan_c.proofs.Called.{called}
use Rattle.vorgushan_c.proofs.exports.vorgushan_checkpoint.Goals as goal

pub returns : goal.returns
returns c =
    called _ _ _ _ _ c.deref_mut.result.now c.checkpoint-outcome.new.self c.checkpoint-outcome.result (search rules) (search rules) (search rules) c.checkpoint-outcome.ensures
