use Rattle.std.proofs.Common.{◌≡◌, ◌-◌, length, sym, subst, arith}
use Rattle.btree.specs.Stretch.{IsStretch}
use Rattle.btree.proofs.Stretches.{ascends_left, length_left}
use Rattle.btree.proofs.root.Tree.take_stretch.Goals as goal

pub invariant_of-self-2 : goal.invariant_of-self-2
invariant_of-self-2 g c =
    let from = g.P.Point.before c.args.from.now in
    let to = g.Q.Point.before c.args.to.now in
    let old = c.self.inside.root.pairs in
    let count = c.in_ok-count.count in
    let part = subst (IsStretch from to old count) (sym c.fall.ensures.pairs) c.in_ok-count.ensures.stretch in
    let sorted = ascends_left g.K.Ord.cmp from to old count c.fall.new.self.pairs part c.self.invariant.0.sorted in
    let size = length_left from to old count c.fall.new.self.pairs part in
    let len : c.self.inside.len - count ≡ length c.fall.new.self.pairs = omega (arith, size, c.self.invariant.1) in
    (record { sorted = sorted; most = c.fall.ensures.most; full = c.fall.ensures.full; inner = c.fall.ensures.inner; many = c.fall.ensures.many }, len, omega (arith, c.fall.ensures.height.0, c.in_ok-count.ensures.lost.level, c.self.invariant.2))
