use Rattle.std.proofs.Common.{rules}
use Rattle.vorgushan_c.proofs.Called.{keys_called}
use Rattle.vorgushan_c.proofs.typed.vorgushan_merge.Goals as goal

pub returns-clause-called : goal.returns-clause-called
returns-clause-called c =
    keys_called _ _ _ _ _ _ c.deref_mut.result.now c.merge-outcome.new.engine c.deref.result.now c.deref-2.result.now c.merge-outcome.result (search rules) (search rules) (search rules) (search rules) (search rules)
    c.merge-outcome.ensures
