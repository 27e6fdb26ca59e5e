use Rattle.std.proofs.Common.{refl, rules, sym}
use Rattle.vorgushan_c.proofs.Called.{key_called}
use Rattle.vorgushan_c.proofs.looks.vorgushan_look_order.Goals as goal

pub returns-clause-called : goal.returns-clause-called
returns-clause-called c =
    rw (sym c.direction_of-direction.ensures)
    (key_called _ _ _ _ _ _ c.deref.result.now c.deref.result.now c.deref-2.result.now c.look_order-outcome.result (search rules) (search rules) (search rules) (search rules) (refl, c.look_order-outcome.ensures))
