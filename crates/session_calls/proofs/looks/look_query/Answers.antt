use Rattle.session_calls.proofs.Looked.{query_looked}
use Rattle.session_calls.proofs.looks.look_query.Goals as goal

pub returns-in-Ok : goal.returns-in-Ok
returns-in-Ok c =
    query_looked c.args.at_start c.args.key.now c.look_found.new.key c.args.is_open c.args.direction c.args.seat.now c.look_found.new.seat c.look_found.result c.in-Ok.place c.in-Ok.ensures.ok
    c.in-Ok.ensures.within c.look_found.ensures
