use Rattle.std.proofs.Common.{ℕ, ◌≡◌, ◌+◌, length, ap, arith, cond, is_some}
use Rattle.btree.proofs.Roots.{root_kept, length_put, low}
use Rattle.btree.proofs.root.Tree.insert_by.Goals as goal

pub invariant_of-self : goal.invariant_of-self
invariant_of-self g c =
    let put = c.in-Ok.ensures.put in
    let size = length_put g.K.Ord.cmp g.met.K.Ord.total c.self.inside.root c.self.invariant.0 c.args.key c.args.value c.put_in_leaf.new.self.pairs put in
    let none = ap {B = ℕ} (λ v. cond (is_some v) 1 0) c.in-Ok.ensures.missed in
    let root = root_kept g.K.Ord.cmp g.met.K.Ord.total c.self.inside.root c.self.invariant.0 c.args.key c.args.value c.put_in_leaf.new.self c.put_in_leaf.ensures.same_size put in
    let len : c.self.inside.len + 1 ≡ length c.put_in_leaf.new.self.pairs = omega (arith, size, none, c.self.invariant.1) in
    (root, len, low g.K.Ord.cmp c.put_in_leaf.new.self root (omega arith))
