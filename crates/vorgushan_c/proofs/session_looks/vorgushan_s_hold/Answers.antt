use Rattle.std.proofs.Common.{rules}
use Rattle.vorgushan_c.proofs.SeatCalled.{seat_called}
use Rattle.vorgushan_c.proofs.session_looks.vorgushan_s_hold.Goals as goal

pub returns : goal.returns
returns c = seat_called _ _ _ _ _ c.deref_mut.result.now c.hold-answered.new.seat c.hold-answered.result (search rules) (search rules) (search rules) c.hold-answered.ensures
