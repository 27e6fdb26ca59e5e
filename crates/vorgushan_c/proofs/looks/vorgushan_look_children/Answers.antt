use Rattle.std.proofs.Common.{rules}
use Rattle.vorgushan_c.proofs.Called.{key_called}
use Rattle.vorgushan_c.proofs.looks.vorgushan_look_children.Goals as goal

pub returns-clause-called : goal.returns-clause-called
returns-clause-called c =
    key_called _ _ _ _ _ _ c.deref_mut.result.now c.look_children-outcome.new.engine c.deref.result.now c.look_children-outcome.result (search rules) (search rules) (search rules) (search rules) c.look_children-outcome.ensures
