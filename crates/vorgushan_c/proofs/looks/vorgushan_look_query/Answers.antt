use Rattle.std.proofs.Common.{refl, rules, sym}
use Rattle.vorgushan_c.proofs.Called.{key_called}
use Rattle.vorgushan_c.proofs.looks.vorgushan_look_query.Goals as goal

pub returns : goal.returns
returns c =
    rw (sym c.direction_of-direction.ensures)
    (key_called _ _ _ _ _ _ c.deref.result.now c.deref.result.now c.deref_mut.result.now c.look_query-outcome.result (search rules) (search rules) (search rules) (search rules)
    (record { found = c.look_query-outcome.new.key; there = search rules; so = (refl, c.look_query-outcome.ensures) }))
