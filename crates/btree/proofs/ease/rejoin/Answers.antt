use Rattle.std.proofs.Common.{ap, arith, refl}
use Rattle.btree.proofs.Shapes.{kid_at}
use Rattle.btree.proofs.Mending.{loose_node}
use Rattle.btree.proofs.ease.rejoin.Goals as goal

pub rejoin_inner-requires-clause-inner : goal.rejoin_inner-requires-clause-inner
rejoin_inner-requires-clause-inner g c =
    let kid = kid_at g.K.Ord.cmp c.args.at c.args.separators.now.items c.args.kids.now.items c.index.result.now c.requires.node c.requires.in_range in
    omega (arith, kid.0, ap (λ b. b.height) c.index.ensures, c.if-not-is_leaf.ensures.inner refl)

pub rejoin_inner-requires-clause-loose : goal.rejoin_inner-requires-clause-loose
rejoin_inner-requires-clause-loose g c = loose_node g.K.Ord.cmp c.args.at c.args.separators.now.items c.args.kids.now.items c.requires.node c.requires.in_range

pub returns-then-not-is_leaf-clause-kept : goal.returns-then-not-is_leaf-clause-kept
returns-then-not-is_leaf-clause-kept g c = c.rejoin_inner.ensures.kept c.requires.node

pub rejoin_leaves-requires-clause-leaves : goal.rejoin_leaves-requires-clause-leaves
rejoin_leaves-requires-clause-leaves g c =
    let kid = kid_at g.K.Ord.cmp c.args.at c.args.separators.now.items c.args.kids.now.items c.index.result.now c.requires.node c.requires.in_range in
    omega (arith, kid.0, ap (λ b. b.height) c.index.ensures, c.if-not-is_leaf.ensures.leaf refl)

pub rejoin_leaves-requires-clause-loose : goal.rejoin_leaves-requires-clause-loose
rejoin_leaves-requires-clause-loose g c = loose_node g.K.Ord.cmp c.args.at c.args.separators.now.items c.args.kids.now.items c.requires.node c.requires.in_range

pub returns-in-Ok-clause-kept : goal.returns-in-Ok-clause-kept
returns-in-Ok-clause-kept g c = c.in-Ok.ensures.kept c.requires.full
