use Rattle.std.proofs.Common.{arith}
use Rattle.embedded.proofs.Given.{first_read, more_given}
use Rattle.embedded.proofs.journaled.give_more.Goals as goal

pub units-preserved : goal.units-preserved
units-preserved c = record {
  steps = (tt, tt);
  so_far = more_given _ _ _ _ _ _ _ _ _ _ _ _ c.units.invariant.so_far (first_read _ _ _ _ c.in-Some.ensures.steps c.in-Ok.is) c.in-Ok-give.ensures.given (omega (arith, c.if-size-left.false, c.saturating_sub-left.ensures, c.len.ensures));
}
