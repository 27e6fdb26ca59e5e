use Rattle.std.proofs.Common.{rules}
use Rattle.vorgushan_c.proofs.SeatCalled.{halt_not, halt_over}
use Rattle.vorgushan_c.proofs.sessions.vorgushan_s_halt.Goals as goal

pub returns-in-Ok-Ok : goal.returns-in-Ok-Ok
returns-in-Ok-Ok c =
    halt_over _ _ _ c.deref_mut.result.now c.halt.new.seat c.in-Ok-Ok.field-0 c.in-Ok-Ok.pass c.in-Ok-Ok.field-0-is (search rules) c.in-Ok-Ok.ensures (search rules) (search rules)

pub returns-in-Ok-Err : goal.returns-in-Ok-Err
returns-in-Ok-Err c =
    halt_not _ _ _ c.deref_mut.result.now c.halt.new.seat c.in-Ok-Err.field-0 c.in-Ok-Err.outcome c.in-Ok-Err.field-0-is (search rules) c.in-Ok-Err.ensures (search rules) (search rules)
