use Rattle.std.proofs.Common.{rules, sym}
use Rattle.vorgushan_c.proofs.Called.{key_called}
use Rattle.vorgushan_c.proofs.typed.vorgushan_query.Goals as goal

pub returns : goal.returns
returns c =
    rw (sym c.direction_of.ensures)
    (key_called _ _ _ _ _ _ c.deref_mut.result.now c.query-outcome.new.engine c.deref_mut-2.result.now c.query-outcome.result (search rules) (search rules) (search rules) (search rules)
    (record { found = c.query-outcome.new.key; there = search rules; so = c.query-outcome.ensures }))
