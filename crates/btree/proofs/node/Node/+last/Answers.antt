use Rattle.std.proofs.Common.{◌≡◌, ◌<◌, ◌∙◌, length, ap, sym, arith}
use borrow.Author.Tests.{ltb-true}
use Rattle.btree.specs.Order.{last_of}
use Rattle.btree.proofs.Shapes.{kids_some}
use Rattle.btree.proofs.Nodes.{inner, inner_pairs}
use Rattle.btree.proofs.Seeks.{last_in_last}
use Rattle.btree.proofs.node.Node.+last.Goals as goal

pub returns-in-Some-clause-found : goal.returns-in-Some-clause-found
returns-in-Some-clause-found g t c =
    let low : length c.read.result.1.now < length c.read.result.2.now = ltb-true _ _ (sym c.in-Some.ensures.lookup.0) in
    let some : length c.read.result.2.now ≡ 0 → ⊥ = λ e. omega (arith, low, e) in
    let s = inner g.K.Ord.cmp c.args.self.now c.read.result.0.now c.read.result.1.now c.read.result.2.now c.read.ensures.same_view c.read.ensures.sound some in
    c.last.ensures.found ∙ sym (ap last_of (inner_pairs g.K.Ord.cmp c.args.self.now c.read.result.0.now c.read.result.1.now c.read.result.2.now c.read.ensures.same_view c.read.ensures.sound some) ∙ last_in_last (length c.read.result.1.now) c.read.result.2.now c.in-Some.kid.now s.fits (kids_some s.level c.read.result.2.now s.kids) c.in-Some.ensures.lookup.1)
