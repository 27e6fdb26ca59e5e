use Rattle.std.proofs.Common.{sym, None}
use Rattle.collation.specs.Answers.{is_forward}
use Rattle.globals.specs.laws.Seeks.{order_found, sibling_found}
use Rattle.globals.proofs.sibling.nearest_sibling.Goals as goal

pub returns-in-Some-clause-answer : goal.returns-in-Some-clause-answer
returns-in-Some-clause-answer g c =
    sibling_found (is_forward c.args.direction) c.args.place.now (g.V.OrderedView.content c.args.view.now) c.order_start.result c.in-Some.key.now c.child_toward.result c.requires c.order_start.ensures c.in-Some.ensures c.child_toward.ensures.child

pub returns-in-None-clause-answer : goal.returns-in-None-clause-answer
returns-in-None-clause-answer g c =
    sym (order_found (is_forward c.args.direction) c.args.place.now (g.V.OrderedView.content c.args.view.now) c.order_start.result None c.requires c.order_start.ensures c.in-None.ensures)
