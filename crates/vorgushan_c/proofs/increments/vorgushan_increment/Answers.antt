use Rattle.std.proofs.Common.{rules}
use Rattle.vorgushan_c.proofs.Called.{key_called}
use Rattle.vorgushan_c.proofs.increments.vorgushan_increment.Goals as goal

pub returns-clause-called : goal.returns-clause-called
returns-clause-called c =
    key_called _ _ _ _ _ _ c.deref_mut.result.now c.increment-outcome.new.engine c.deref.result.now c.increment-outcome.result (search rules) (search rules) (search rules) (search rules) c.increment-outcome.ensures
