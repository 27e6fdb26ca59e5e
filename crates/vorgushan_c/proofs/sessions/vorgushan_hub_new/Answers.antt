use Rattle.std.proofs.Common.{rules}
use Rattle.vorgushan_c.proofs.SeatCalled.{hub_made}
use Rattle.vorgushan_c.proofs.sessions.vorgushan_hub_new.Goals as goal

pub returns-in-Ok : goal.returns-in-Ok
returns-in-Ok c = hub_made _ _ _ c.in-Ok.seat (search rules) c.in-Ok.ensures.0 c.put_made.ensures
