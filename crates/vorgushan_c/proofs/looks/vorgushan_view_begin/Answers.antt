use Rattle.std.proofs.Common.{rules}
use Rattle.vorgushan_c.proofs.Called.{called}
use Rattle.vorgushan_c.proofs.looks.vorgushan_view_begin.Goals as goal

pub returns : goal.returns
returns c =
    called _ _ _ _ _ c.deref_mut.result.now c.begin_view-outcome.new.engine c.begin_view-outcome.result (search rules) (search rules) (search rules) c.begin_view-outcome.ensures
