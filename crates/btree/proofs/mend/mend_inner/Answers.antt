use Rattle.std.proofs.Common.{ap, arith}
use Rattle.btree.proofs.Mending.{mended_here}
use Rattle.btree.proofs.mend.mend_inner.Goals as goal

pub returns-then-count-ge16-clause-node : goal.returns-then-count-ge16-clause-node
returns-then-count-ge16-clause-node g c = mended_here g.K.Ord.cmp c.args.at c.args.separators.now.items c.args.kids.now.items c.index.result.now c.requires.loose (omega (arith, ap (λ b. b.count) c.index.ensures))
