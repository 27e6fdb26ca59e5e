use Rattle.std.proofs.Common.{rules}
use Rattle.vorgushan_c.proofs.Called.{called}
use Rattle.vorgushan_c.proofs.exports.vorgushan_line.Goals as goal

pub returns : goal.returns
returns c =
    called _ _ _ _ _ c.deref_mut.result.now c.line-outcome.new.self c.line-outcome.result (search rules) (search rules) (search rules) c.line-outcome.ensures
