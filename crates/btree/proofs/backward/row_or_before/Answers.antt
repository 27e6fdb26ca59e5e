use Rattle.std.proofs.Common.{◌∙◌, ◌++◌, ap, sym, length, reverse}
use borrow.Author.Tests.{eqb-true}
use Rattle.btree.specs.Walk.{left_back_of}
use Rattle.btree.proofs.Walks.{none_left}
use Rattle.btree.proofs.backward.row_or_before.Goals as goal

pub returns-then-is_empty-clause-left : goal.returns-then-is_empty-clause-left
returns-then-is_empty-clause-left g c =
    let none = none_left c.args.row.now (eqb-true (length c.args.row.now) 0 (sym c.is_empty.ensures ∙ c.if-is_empty.true)) in
    ap (λ zs. reverse zs ++ left_back_of c.args.path.now.items) none ∙ c.leaf_before.ensures.left

pub returns-then-is_empty-clause-end : goal.returns-then-is_empty-clause-end
returns-then-is_empty-clause-end g c = λ e.
    let none = none_left c.args.row.now (eqb-true (length c.args.row.now) 0 (sym c.is_empty.ensures ∙ c.if-is_empty.true)) in
    ap (λ zs. reverse zs ++ left_back_of c.args.path.now.items) none ∙ c.leaf_before.ensures.end e
