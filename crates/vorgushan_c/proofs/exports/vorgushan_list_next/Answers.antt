use Rattle.std.proofs.Common.{rules}
use Rattle.vorgushan_c.proofs.Called.{called}
use Rattle.vorgushan_c.proofs.exports.vorgushan_list_next.Goals as goal

pub returns : goal.returns
returns c =
    called _ _ _ _ _ c.deref_mut.result.now c.copy_next_node-outcome.new.self c.copy_next_node-outcome.result (search rules) (search rules) (search rules) c.copy_next_node-outcome.ensures
