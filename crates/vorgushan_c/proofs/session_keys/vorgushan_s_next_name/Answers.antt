use Rattle.std.proofs.Common.{rules, sym}
use Rattle.vorgushan_c.proofs.SeatCalled.{seat_called}
use Rattle.vorgushan_c.proofs.session_keys.vorgushan_s_next_name.Goals as goal

pub returns : goal.returns
returns c =
    rw (sym c.direction_of-direction.ensures)
    (seat_called _ _ _ _ _ c.deref_mut.result.now c.next_name-answered.new.seat c.next_name-answered.result (search rules) (search rules) (search rules) c.next_name-answered.ensures)
