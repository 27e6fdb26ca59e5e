use Rattle.std.proofs.Common.{rules}
use Rattle.vorgushan_c.proofs.SeatCalled.{seat_key_called}
use Rattle.vorgushan_c.proofs.session_keys.vorgushan_s_data.Goals as goal

pub returns-clause-called : goal.returns-clause-called
returns-clause-called c =
    seat_key_called _ _ _ _ _ _ c.deref_mut.result.now c.data-answered.new.seat c.deref.result.now c.data-answered.result (search rules) (search rules) (search rules) (search rules) c.data-answered.ensures
