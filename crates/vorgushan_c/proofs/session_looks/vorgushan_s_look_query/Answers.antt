use Rattle.std.proofs.Common.{rules, sym}
use Rattle.vorgushan_c.proofs.SeatCalled.{seat_key_called}
use Rattle.vorgushan_c.proofs.session_looks.vorgushan_s_look_query.Goals as goal

pub returns : goal.returns
returns c =
    rw (sym c.direction_of-direction.ensures)
    (seat_key_called _ _ _ _ _ _ c.deref_mut.result.now c.look_query-answered.new.seat c.deref_mut-2.result.now c.look_query-answered.result (search rules) (search rules) (search rules) (search rules)
    (record { found = c.look_query-answered.new.key; there = search rules; so = c.look_query-answered.ensures }))
