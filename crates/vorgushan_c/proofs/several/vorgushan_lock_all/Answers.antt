use Rattle.std.proofs.Common.{rules, sym}
use Rattle.vorgushan_c.proofs.Called.{called}
use Rattle.vorgushan_c.proofs.several.vorgushan_lock_all.Goals as goal

pub returns-clause-called : goal.returns-clause-called
returns-clause-called c =
    rw (sym c.form_of-form.ensures)
    (called _ _ _ _ _ c.deref_mut.result.now c.lock_there-outcome.new.there c.lock_there-outcome.result (search rules) (search rules) (search rules) c.lock_there-outcome.ensures.locked)
