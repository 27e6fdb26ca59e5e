use Rattle.std.proofs.Common.{rules, sym}
use Rattle.vorgushan_c.proofs.SeatCalled.{seat_called}
use Rattle.vorgushan_c.proofs.session_locks.vorgushan_s_lock.Goals as goal

pub returns-clause-called : goal.returns-clause-called
returns-clause-called c =
    rw (sym c.form_of-form.ensures)
    (seat_called _ _ _ _ _ c.deref_mut.result.now c.tried_there-answered.new.seat c.tried_there-answered.result (search rules) (search rules) (search rules) c.tried_there-answered.ensures.tried)
