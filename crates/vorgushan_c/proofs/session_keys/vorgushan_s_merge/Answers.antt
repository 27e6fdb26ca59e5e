use Rattle.std.proofs.Common.{rules}
use Rattle.vorgushan_c.proofs.SeatCalled.{seat_keys_called}
use Rattle.vorgushan_c.proofs.session_keys.vorgushan_s_merge.Goals as goal

pub returns-clause-called : goal.returns-clause-called
returns-clause-called c =
    seat_keys_called _ _ _ _ _ _ c.deref_mut.result.now c.merge-answered.new.seat c.deref.result.now c.deref-2.result.now c.merge-answered.result (search rules) (search rules) (search rules) (search rules) (search rules)
    c.merge-answered.ensures
