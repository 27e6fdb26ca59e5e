use Rattle.std.proofs.Common.{sym, subst}
use Rattle.btree.specs.Stretch.{IsRun}
use Rattle.btree.proofs.Nodes.{leaf_none, leaf_row}
use Rattle.btree.proofs.Stretches.{run_at}
use Rattle.btree.proofs.node.Node.places.Goals as goal

pub returns-clause-run : goal.returns-clause-run
returns-clause-run g c =
    let es = c.self.inside.entries.items in
    let none = leaf_none c.args.self.now es c.self.inside.separators.items c.self.inside.kids.items c.self.view_is c.requires.leaf in
    let row = leaf_row g.K.Ord.cmp c.args.self.now es c.self.inside.separators.items c.self.inside.kids.items c.self.view_is c.self.invariant.0 none in
    let from = g.P.Point.before c.args.from.now in
    let to = g.Q.Point.before c.args.to.now in
    subst (λ zs. IsRun from to zs c.count_before-first.result c.max-end.result) (sym row)
    (run_at from to es c.count_before-first.result c.count_before.result c.max-end.result c.max-end.ensures
    (rw c.deref.ensures.value at c.count_before-first.ensures.in_range) (rw c.deref-2.ensures.value at c.count_before.ensures.in_range)
    (rw c.deref.ensures.value at c.count_before-first.ensures.before) (rw c.deref.ensures.value at c.count_before-first.ensures.after)
    (rw c.deref-2.ensures.value at c.count_before.ensures.before) (rw c.deref-2.ensures.value at c.count_before.ensures.after))
