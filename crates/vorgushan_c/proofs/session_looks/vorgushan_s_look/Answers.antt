use Rattle.std.proofs.Common.{rules}
use Rattle.vorgushan_c.proofs.SeatCalled.{seat_key_called}
use Rattle.vorgushan_c.proofs.session_looks.vorgushan_s_look.Goals as goal

pub returns-clause-called : goal.returns-clause-called
returns-clause-called c =
    seat_key_called _ _ _ _ _ _ c.deref_mut.result.now c.look-answered.new.seat c.deref.result.now c.look-answered.result (search rules) (search rules) (search rules) (search rules) c.look-answered.ensures
