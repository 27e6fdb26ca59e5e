use Rattle.std.proofs.Common.{rules, sym}
use Rattle.vorgushan_c.proofs.SeatCalled.{seat_key_called}
use Rattle.vorgushan_c.proofs.session_keys.vorgushan_s_kill.Goals as goal

pub returns-clause-called : goal.returns-clause-called
returns-clause-called c =
    rw (sym c.extent_of-extent.ensures)
    (seat_key_called _ _ _ _ _ _ c.deref_mut.result.now c.kill-answered.new.seat c.deref.result.now c.kill-answered.result (search rules) (search rules) (search rules) (search rules) c.kill-answered.ensures)
