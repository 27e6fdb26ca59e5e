use Rattle.std.proofs.Common.{rules}
use Rattle.vorgushan_c.proofs.SeatCalled.{seat_called}
use Rattle.vorgushan_c.proofs.sessions.vorgushan_s_checkpoint.Goals as goal

pub returns : goal.returns
returns c =
    seat_called _ _ _ _ _ c.deref_mut.result.now c.checkpoint-answered.new.seat c.checkpoint-answered.result (search rules) (search rules) (search rules) (c.checkpoint-answered.ensures.same, c.checkpoint-answered.ensures.done)
