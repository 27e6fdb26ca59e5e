use Rattle.std.proofs.Common.{rules, sym}
use Rattle.vorgushan_c.proofs.SeatCalled.{seat_key_called}
use Rattle.vorgushan_c.proofs.session_looks.vorgushan_s_look_order.Goals as goal

pub returns-clause-called : goal.returns-clause-called
returns-clause-called c =
    rw (sym c.direction_of-direction.ensures)
    (seat_key_called _ _ _ _ _ _ c.deref_mut.result.now c.look_order-answered.new.seat c.deref.result.now c.look_order-answered.result (search rules) (search rules) (search rules) (search rules) c.look_order-answered.ensures)
