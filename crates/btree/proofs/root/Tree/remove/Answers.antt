use Rattle.std.proofs.Common.{◌≡◌, ◌-◌, cond, is_some, length, ap, ◌∙◌, arith}
use Rattle.btree.proofs.Roots.{root_shrunk, length_taken}
use Rattle.btree.proofs.root.Tree.remove.Goals as goal

pub invariant_of-self-2 : goal.invariant_of-self-2
invariant_of-self-2 g c =
    let pairs = c.fall.ensures.pairs ∙ c.in_ok-value.ensures.pairs in
    let size = length_taken g.K.Ord.cmp c.self.inside.root c.self.invariant.0 c.args.key.now g.met.K.Ord.total c.fall.new.self.pairs pairs in
    let count = c.count.ensures ∙ ap (λ v. cond (is_some v) 1 0) c.in_ok-value.ensures.value in
    let len : c.self.inside.len - c.count.result ≡ length c.fall.new.self.pairs = omega (arith, size, count, c.self.invariant.1) in
    (root_shrunk g.K.Ord.cmp c.self.inside.root c.self.invariant.0 c.args.key.now c.fall.new.self pairs c.fall.ensures.most c.fall.ensures.full c.fall.ensures.inner c.fall.ensures.many, len, omega (arith, c.fall.ensures.height.0, c.remove.ensures.shrunk.level, c.self.invariant.2))
