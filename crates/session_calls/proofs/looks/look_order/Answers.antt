use Rattle.session_calls.proofs.Looked.{order_looked}
use Rattle.session_calls.proofs.looks.look_order.Goals as goal

pub returns-in-Ok : goal.returns-in-Ok
returns-in-Ok c =
    order_looked c.args.at_start c.args.level.now c.args.start.now c.args.direction c.args.buffer.now c.look_sibling.new.buffer c.look_sibling.new.wanted c.args.seat.now c.look_sibling.new.seat c.look_sibling.result
    c.in-Ok.place c.in-Ok.ensures.ok c.in-Ok.ensures.within c.look_sibling.ensures
