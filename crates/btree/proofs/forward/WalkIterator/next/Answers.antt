use Rattle.std.proofs.Common.{◌-◌, ◌∷◌, ◌++◌, length, take, drop, ap, sym, ◌∙◌, arith}
use Rattle.btree.specs.Walk.{left_of}
use Rattle.btree.proofs.Walks.{first_split, none_left, both_none, shorter}
use Rattle.btree.proofs.forward.WalkIterator.next.Goals as goal

pub returns-in-empty-clause-steps : goal.returns-in-empty-clause-steps
returns-in-empty-clause-steps g c =
    let none = c.row_or_next.ensures.end (none_left c.row_or_next.result.now (omega (arith, c.in-empty.len_below))) in
    (sym c.self.view_is ∙ none, both_none c.self.inside.row.now (left_of c.self.inside.path.items) c.row_or_next.result.now (left_of c.row_or_next.new.path.items) none c.row_or_next.ensures.left)

pub returns-in-len1-up-clause-steps : goal.returns-in-len1-up-clause-steps
returns-in-len1-up-clause-steps g c =
    let later = take (length c.row_or_next.result.now - 1) (drop 1 c.row_or_next.result.now) ++ left_of c.row_or_next.new.path.items in
    sym c.self.view_is ∙ c.row_or_next.ensures.left ∙ ap (λ zs. zs ++ left_of c.row_or_next.new.path.items) (first_split c.row_or_next.result.now c.entry-item.result (omega arith)) ∙ ap (λ e. e ∷ later) (sym c.entry-item.is)

pub returns-in-len1-up-clause-goes : goal.returns-in-len1-up-clause-goes
returns-in-len1-up-clause-goes g c =
    let later = take (length c.row_or_next.result.now - 1) (drop 1 c.row_or_next.result.now) ++ left_of c.row_or_next.new.path.items in
    let step = sym c.self.view_is ∙ c.row_or_next.ensures.left ∙ ap (λ zs. zs ++ left_of c.row_or_next.new.path.items) (first_split c.row_or_next.result.now c.entry-item.result (omega arith)) ∙ ap (λ e. e ∷ later) (sym c.entry-item.is) in
    let less = shorter c.args.self.now later c.entry-item.result step in
    record { on = λ _. (tt, tt, less); keeps = tt; rests = λ _. tt }
