use Rattle.std.proofs.Common.{◌≡◌, ◌<◌, ◌∙◌, sym, length, length-append, arith}
use borrow.Author.Tests.{eqb-false}
use Rattle.std.specs.Vec.{vec_len}
use Rattle.btree.proofs.Shapes.{kid_high}
use Rattle.btree.proofs.Nodes.{inner, inner_levels}
use Rattle.btree.proofs.Shapes.{inner_height}
use Rattle.btree.proofs.node.Node.fits_with.Goals as goal

pub returns-then-not-is_empty-clause-many : goal.returns-then-not-is_empty-clause-many
returns-then-not-is_empty-clause-many g c = λ _.
    let some_len : vec_len c.self.inside.kids ≡ 0 → ⊥ = eqb-false (vec_len c.self.inside.kids) 0 (sym c.is_empty.ensures ∙ c.if-not-is_empty.true) in
    let some : length c.self.inside.kids.items ≡ 0 → ⊥ = λ e. some_len (c.self.inside.kids.ok.0 ∙ e) in
    let levels = inner_levels g.K.Ord.cmp c.args.self.now c.self.inside.entries.items c.self.inside.separators.items c.self.inside.kids.items c.self.view_is c.self.invariant.0 some in
    let height = inner_height g.K.Ord.cmp c.self.inside.separators.items c.self.inside.kids.items (inner g.K.Ord.cmp c.args.self.now c.self.inside.entries.items c.self.inside.separators.items c.self.inside.kids.items c.self.view_is c.self.invariant.0 some) in
    let high : 0 < c.args.self.now.height = omega (arith, levels, height) in
    omega (arith, kid_high c.args.self.now.height c.args.self.now c.requires.lower high, length-append c.args.self.now.pairs c.args.right.now.pairs)
