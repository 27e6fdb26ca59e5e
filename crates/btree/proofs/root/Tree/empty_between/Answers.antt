use Rattle.std.proofs.lemmas.List.{length-map}
use Rattle.std.proofs.Common.{◌<◌, length, ap, sym, subst, ◌∙◌}
use Rattle.btree.specs.Branch.{Branch}
use Rattle.btree.specs.Tree.{IsRoot}
use Rattle.btree.specs.Values.{emptied}
use Rattle.btree.proofs.Values.{root_emptied}
use Rattle.btree.proofs.root.Tree.empty_between.Goals as goal

pub invariant_of-self : goal.invariant_of-self
invariant_of-self g c =
    let R = g.K.Ord.cmp in
    let none = g.V.Vacant.none in
    let from = g.P.Point.before c.args.from.now in
    let to = g.Q.Point.before c.args.to.now in
    let root = c.self.inside.root in
    let is = c.empty_node.ensures in
    let len = c.self.invariant.1 ∙ sym (length-map root.pairs (emptied none from to)) ∙ sym (ap (λ (b : Branch g.row.K.Denot g.row.V.Denot). length b.pairs) is) in
    (subst (IsRoot R) (sym is) (root_emptied R none from to root c.self.invariant.0), len, subst (λ (b : Branch g.row.K.Denot g.row.V.Denot). b.height < 16) (sym is) c.self.invariant.2)
