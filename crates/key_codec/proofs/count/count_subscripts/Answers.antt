use Rattle.std.proofs.Common.{refl, arith, ◌+◌}
use Rattle.key_codec.proofs.Counting.{left_next, left_none}
use Rattle.key_codec.proofs.count.count_subscripts.Goals as goal

pub loop-more-preserved : goal.loop-more-preserved
loop-more-preserved c = (
  λ ss a e. left_next c.loop-more.count (c.loop-more.count + 1) c.loop-more.rest.now ss c.in-Some.more (c.loop-more.invariant.0 ss a e) (omega (arith, c.in-Some.ensures.shorter)) c.in-Some.ensures.behind refl,
  omega (arith, c.in-Some.ensures.shorter, c.loop-more.invariant.1),
)

pub returns-clause-count : goal.returns-clause-count
returns-clause-count c = λ ss a e. left_none c.loop-more.count c.loop-more.rest.now ss (c.loop-more.invariant.0 ss a e) c.in_default.ensures.behind
