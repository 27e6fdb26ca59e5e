use Rattle.std.proofs.Common.{rules, sym}
use Rattle.vorgushan_c.proofs.Called.{called}
use Rattle.vorgushan_c.proofs.increments.vorgushan_next_name.Goals as goal

pub returns : goal.returns
returns c =
    rw (sym c.direction_of-direction.ensures)
    (called _ _ _ _ _ c.deref_mut.result.now c.next_name-outcome.new.engine c.next_name-outcome.result (search rules) (search rules) (search rules) c.next_name-outcome.ensures)
