use Rattle.std.proofs.Common.{rules}
use Rattle.vorgushan_c.proofs.SeatCalled.{begun_put}
use Rattle.vorgushan_c.proofs.sessions.put_begun.Goals as goal

pub returns-in-Ok-Ok : goal.returns-in-Ok-Ok
returns-in-Ok-Ok c =
    begun_put c.args.job c.args.seat.value c.deref_mut.result.now c.begin.new.self c.in-Ok-Ok.field-0 c.in-Ok-Ok.field-0-0 _ _ (search rules) c.in-Ok-Ok.field-0-is c.in-Ok-Ok.ensures (search rules) (search rules)
