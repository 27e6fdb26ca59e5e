use Rattle.std.proofs.Common.{arith}
use Rattle.read_ranges.proofs.Joining.{one_covers}
use Rattle.read_ranges.proofs.noted.Ranges.is_covered.Goals as goal

pub returns-then-covers : goal.returns-then-covers
returns-then-covers c = λ _ x. rw (← c.self.view_is) (one_covers c.self.inside.list.items c.loop-i.i c.index.result.now (omega (arith, c.loop-i-test.true, c.len-i-end.ensures)) c.index.ensures x _ (c.covers.ensures c.if-covers.true x))
