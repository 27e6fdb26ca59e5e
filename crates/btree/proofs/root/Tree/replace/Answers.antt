use Rattle.std.proofs.Common.{◌<◌, subst, sym}
use Rattle.btree.proofs.Roots.{root_replaced}
use Rattle.btree.proofs.root.Tree.replace.Goals as goal

pub invariant_of-self : goal.invariant_of-self
invariant_of-self g c =
    let root = root_replaced g.K.Ord.cmp g.met.K.Ord.total c.self.inside.root c.self.invariant.0 c.args.key.now c.args.value c.replace.result c.self.inside.len c.replace.new.self c.self.invariant.1 c.replace.ensures.same_size c.replace.ensures.before c.replace.ensures.put c.replace.ensures.kept in
    (root.0, root.1, subst (λ n. n < 16) (sym c.replace.ensures.same_size.level) c.self.invariant.2)
