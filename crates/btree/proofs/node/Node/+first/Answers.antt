use Rattle.std.proofs.Common.{◌≡◌, ◌∙◌, length, ap, sym}
use Rattle.std.specs.List.{slice_get}
use Rattle.btree.proofs.Shapes.{kids_some}
use Rattle.btree.proofs.Nodes.{inner, inner_pairs}
use Rattle.btree.proofs.Seeks.{some_get, first_in_first}
use Rattle.btree.proofs.node.Node.+first.Goals as goal

pub returns-in-Some-clause-found : goal.returns-in-Some-clause-found
returns-in-Some-clause-found g t c =
    let some : length c.read.result.2.now ≡ 0 → ⊥ = some_get c.read.result.2.now c.in-Some.kid.now c.in-Some.ensures.value in
    let s = inner g.K.Ord.cmp c.args.self.now c.read.result.0.now c.read.result.1.now c.read.result.2.now c.read.ensures.same_view c.read.ensures.sound some in
    c.first-in-Some.ensures.found ∙ sym (ap (λ zs. slice_get zs 0) (inner_pairs g.K.Ord.cmp c.args.self.now c.read.result.0.now c.read.result.1.now c.read.result.2.now c.read.ensures.same_view c.read.ensures.sound some) ∙ first_in_first c.read.result.2.now c.in-Some.kid.now (kids_some s.level c.read.result.2.now s.kids) c.in-Some.ensures.value)
