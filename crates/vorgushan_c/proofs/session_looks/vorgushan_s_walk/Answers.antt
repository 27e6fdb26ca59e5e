use Rattle.std.proofs.Common.{rules}
use Rattle.vorgushan_c.proofs.Called.{back_is, held_is, put_is}
use Rattle.vorgushan_c.proofs.SeatCalled.{same_walk, seat_called}
use Rattle.vorgushan_c.proofs.session_looks.vorgushan_s_walk.Goals as goal

pub returns-clause-called : goal.returns-clause-called
returns-clause-called c =
    seat_called _ _ _ _ _ c.deref_mut.result.now c.walk-answered.new.seat c.walk-answered.result (search rules) (search rules) (search rules)
    (same_walk _ _ _ _ _ _ _ _ _ _ _ _ _ (held_is _ _ _ c.take-within.ensures.taken) (held_is _ _ _ c.take-behind.ensures.taken) (put_is _ _ _ _ c.put_back-2.ensures c.take-behind.ensures.left) c.walk-answered.ensures)

pub returns-clause-root : goal.returns-clause-root
returns-clause-root c = back_is _ _ _ _ _ c.take-within.ensures.taken c.put_back.ensures c.take-within.ensures.left
