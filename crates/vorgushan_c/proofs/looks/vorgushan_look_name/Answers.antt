use Rattle.std.proofs.Common.{refl, rules, sym}
use Rattle.vorgushan_c.proofs.Called.{called}
use Rattle.vorgushan_c.proofs.looks.vorgushan_look_name.Goals as goal

pub returns : goal.returns
returns c =
    rw (sym c.direction_of-direction.ensures)
    (called _ _ _ _ _ c.deref.result.now c.deref.result.now c.look_name-outcome.result (search rules) (search rules) (search rules) (refl, c.look_name-outcome.ensures))
