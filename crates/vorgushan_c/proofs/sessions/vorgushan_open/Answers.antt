use Rattle.std.proofs.Common.{rules}
use Rattle.vorgushan_c.proofs.SeatCalled.{open_come}
use Rattle.vorgushan_c.proofs.sessions.vorgushan_open.Goals as goal

pub returns-in-Ok-clause-opened : goal.returns-in-Ok-clause-opened
returns-in-Ok-clause-opened c = open_come c.args.job _ _ _ _ c.deref.result.now c.in-Ok.seat.value (search rules) (search rules) c.in-Ok.ensures.made.0 c.put_begun.ensures
