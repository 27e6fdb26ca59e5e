use Rattle.std.proofs.Common.{ap, arith}
use Rattle.btree.proofs.Mending.{full_before, full_after}
use Rattle.btree.proofs.ease.ease.Goals as goal

pub rejoin-requires-clause-full : goal.rejoin-requires-clause-full
rejoin-requires-clause-full g c = full_before g.K.Ord.cmp c.args.separators.now.items c.args.kids.now.items c.requires.node c.args.at c.index.result.now (omega (arith, ap (λ b. b.count) c.index.ensures)) (omega arith) c.requires.in_range

pub rejoin-requires-then-has_places-2-clause-full : goal.rejoin-requires-then-has_places-2-clause-full
rejoin-requires-then-has_places-2-clause-full g c = full_after g.K.Ord.cmp c.args.separators.now.items c.args.kids.now.items c.requires.node c.args.at c.index.result.now (omega (arith, ap (λ b. b.count) c.index.ensures)) (omega arith)
