use Rattle.std.proofs.Common.{rules}
use Rattle.vorgushan_c.proofs.SeatCalled.{seat_key_called}
use Rattle.vorgushan_c.proofs.session_keys.vorgushan_s_get.Goals as goal

pub returns-clause-called : goal.returns-clause-called
returns-clause-called c =
    seat_key_called _ _ _ _ _ _ c.deref_mut.result.now c.get-answered.new.seat c.deref.result.now c.get-answered.result (search rules) (search rules) (search rules) (search rules) c.get-answered.ensures
