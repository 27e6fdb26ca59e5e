use Rattle.std.proofs.Common.{rules}
use Rattle.vorgushan_c.proofs.SeatCalled.{seat_called}
use Rattle.vorgushan_c.proofs.sessions.vorgushan_s_collect.Goals as goal

pub returns : goal.returns
returns c =
    seat_called _ _ _ _ _ c.deref_mut.result.now c.collect-answered.new.seat c.collect-answered.result (search rules) (search rules) (search rules) (c.collect-answered.ensures.same, c.collect-answered.ensures.done)
