use Rattle.std.proofs.Common.{◌≡◌, true, false, sym, ap, ◌∙◌, Some, None, cond}
use Rattle.collation.specs.Levels.{has_name}
use Rattle.collation.specs.Answers.{is_forward}
use Rattle.globals.specs.laws.Seeks.{query_found}
use Rattle.globals.proofs.traversal.query.Goals as goal

pub returns-then-has_name : goal.returns-then-has_name
returns-then-has_name g c =
    let k = c.in-Some.key.now in
    let p = c.args.place.now in
    let named : has_name p.reference k ≡ true = ap (λ r. has_name r k) (sym c.key.ensures) ∙ sym c.has_name.ensures ∙ c.if-has_name.true in
    let found = query_found (is_forward c.args.direction) p (g.V.OrderedView.content c.args.view.now) c.query_start.result (Some k) c.query_start.ensures c.in-Some.ensures in
    sym (found ∙ ap (λ b. cond b (Some k) None) named)

pub returns-else-has_name : goal.returns-else-has_name
returns-else-has_name g c =
    let k = c.in-Some.key.now in
    let p = c.args.place.now in
    let named : has_name p.reference k ≡ false = ap (λ r. has_name r k) (sym c.key.ensures) ∙ sym c.has_name.ensures ∙ c.if-has_name.false in
    let found = query_found (is_forward c.args.direction) p (g.V.OrderedView.content c.args.view.now) c.query_start.result (Some k) c.query_start.ensures c.in-Some.ensures in
    sym (found ∙ ap (λ b. cond b (Some k) None) named)

pub returns-in-None : goal.returns-in-None
returns-in-None g c =
    sym (query_found (is_forward c.args.direction) c.args.place.now (g.V.OrderedView.content c.args.view.now) c.query_start.result None c.query_start.ensures c.in-None.ensures)
