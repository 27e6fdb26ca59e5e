use Rattle.std.proofs.Common.{rules}
use Rattle.vorgushan_c.proofs.Called.{key_called}
use Rattle.vorgushan_c.proofs.increments.vorgushan_kill_value.Goals as goal

pub returns-clause-called : goal.returns-clause-called
returns-clause-called c =
    key_called _ _ _ _ _ _ c.deref_mut.result.now c.kill_value-outcome.new.engine c.deref.result.now c.kill_value-outcome.result (search rules) (search rules) (search rules) (search rules) c.kill_value-outcome.ensures
