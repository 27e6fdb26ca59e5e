use Rattle.std.proofs.Common.{refl, rules}
use Rattle.std.specs.Prelude.{Ok}
use Rattle.vorgushan_c.proofs.SeatCalled.{seat_called}
use Rattle.vorgushan_c.proofs.session_keys.vorgushan_s_copy.Goals as goal

pub returns : goal.returns
returns c =
    seat_called _ _ _ _ _ c.deref.result.now c.deref.result.now (Ok c.copy_value-outcome.result) (search rules) (search rules) (search rules) (refl, c.copy_value-outcome.ensures)
