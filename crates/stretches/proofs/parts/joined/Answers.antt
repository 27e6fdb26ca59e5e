use Rattle.stretches.proofs.Places.{joined_in}
use Rattle.stretches.proofs.parts.joined.Goals as goal

pub returns-in-Ok : goal.returns-in-Ok
returns-in-Ok c =
    joined_in c.args.first.now c.args.last.now c.args.stretch.now c.in-Ok.joined c.low-low.result c.high-high.result c.low-begin.result c.high-end.result c.high-first_end.result c.low-last_begin.result
    c.earlier.result c.later.result c.low-low.ensures c.high-high.ensures c.low-begin.ensures c.high-end.ensures c.high-first_end.ensures c.low-last_begin.ensures
    (c.is_at_most.ensures.yes c.if-not-is_at_most.false) (c.is_at_most-else-not-is_at_most.ensures.yes c.if-not-is_at_most-2.false) c.earlier.ensures.one c.later.ensures.one c.in-Ok.ensures
