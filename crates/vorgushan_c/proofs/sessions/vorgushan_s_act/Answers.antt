use Rattle.std.proofs.Common.{rules, sym}
use Rattle.vorgushan_c.proofs.SeatCalled.{seat_called}
use Rattle.vorgushan_c.proofs.sessions.vorgushan_s_act.Goals as goal

pub returns : goal.returns
returns c =
    rw (sym c.act_of.ensures)
    (seat_called _ _ _ _ _ c.deref_mut.result.now c.run_numbered-answered.new.seat c.run_numbered-answered.result (search rules) (search rules) (search rules) c.run_numbered-answered.ensures)
