use Rattle.std.proofs.Common.{◌≡◌, sym, length, ap, ◌∙◌}
use borrow.Author.Tests.{eqb-true}
use Rattle.btree.specs.Tree.{Content}
use Rattle.btree.proofs.Nodes.{leaf_row}
use Rattle.btree.proofs.root.Tree.as_row.Goals as goal

pub returns-then-is_empty-clause-row : goal.returns-then-is_empty-clause-row
returns-then-is_empty-clause-row g c =
    let none : length c.rows.result.2.now ≡ 0 = eqb-true (length c.rows.result.2.now) 0 (sym c.is_empty.ensures ∙ c.if-is_empty.true) in
    sym (leaf_row g.K.Ord.cmp c.self.inside.root c.rows.result.0.now c.rows.result.1.now c.rows.result.2.now c.rows.ensures.same_view c.rows.ensures.sound none) ∙ ap (λ (t : Content g.row.K.Denot g.row.V.Denot). t.pairs) c.self.view_is
