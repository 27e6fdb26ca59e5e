use Rattle.std.proofs.Common.{refl, rules}
use Rattle.vorgushan_c.proofs.Called.{key_called}
use Rattle.vorgushan_c.proofs.looks.vorgushan_look_data.Goals as goal

pub returns-clause-called : goal.returns-clause-called
returns-clause-called c =
    key_called _ _ _ _ _ _ c.deref.result.now c.deref.result.now c.deref-2.result.now c.look_data-outcome.result (search rules) (search rules) (search rules) (search rules) (refl, c.look_data-outcome.ensures)
