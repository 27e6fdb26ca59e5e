use Rattle.std.proofs.Common.{rules}
use Rattle.vorgushan_c.proofs.Called.{key_called}
use Rattle.vorgushan_c.proofs.typed.vorgushan_data.Goals as goal

pub returns-clause-called : goal.returns-clause-called
returns-clause-called c =
    key_called _ _ _ _ _ _ c.deref_mut.result.now c.data-outcome.new.engine c.deref.result.now c.data-outcome.result (search rules) (search rules) (search rules) (search rules) c.data-outcome.ensures
