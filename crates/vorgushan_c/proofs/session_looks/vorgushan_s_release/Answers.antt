use Rattle.std.proofs.Common.{rules}
use Rattle.std.specs.Prelude.{Ok}
use Rattle.vorgushan_c.proofs.SeatCalled.{seat_called}
use Rattle.vorgushan_c.proofs.session_looks.vorgushan_s_release.Goals as goal

pub returns : goal.returns
returns c = seat_called _ _ _ _ _ c.deref_mut.result.now c.release-outcome.new.seat (Ok c.release-outcome.result) (search rules) (search rules) (search rules) c.release-outcome.ensures
