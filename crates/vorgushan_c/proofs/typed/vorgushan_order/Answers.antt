use Rattle.std.proofs.Common.{rules, sym}
use Rattle.vorgushan_c.proofs.Called.{key_called}
use Rattle.vorgushan_c.proofs.typed.vorgushan_order.Goals as goal

pub returns-clause-called : goal.returns-clause-called
returns-clause-called c =
    rw (sym c.direction_of-direction.ensures)
    (key_called _ _ _ _ _ _ c.deref_mut.result.now c.order-outcome.new.engine c.deref.result.now c.order-outcome.result (search rules) (search rules) (search rules) (search rules) c.order-outcome.ensures)
