use Rattle.std.proofs.Common.{rules}
use Rattle.vorgushan_c.proofs.Called.{called}
use Rattle.vorgushan_c.proofs.exports.vorgushan_reply.Goals as goal

pub returns : goal.returns
returns c =
    called _ _ _ _ _ c.deref_mut.result.now c.copy_reply-outcome.new.self c.copy_reply-outcome.result (search rules) (search rules) (search rules) c.copy_reply-outcome.ensures
