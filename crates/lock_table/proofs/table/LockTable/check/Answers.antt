use Rattle.std.proofs.Common.{refl}
use Rattle.lock_table.proofs.Tables.{all_refused_by}
use Rattle.lock_table.proofs.table.LockTable.check.Goals as goal

pub returns-in-Only-clause-refused : goal.returns-in-Only-clause-refused
returns-in-Only-clause-refused c = all_refused_by c.bear.result _ _ (rw (c.in-Only.is, c.as_slice.ensures, c.nothing.ensures) refl) c.bear.ensures.full

pub returns-in-More-clause-refused : goal.returns-in-More-clause-refused
returns-in-More-clause-refused c = all_refused_by c.check_more.result _ _ (rw (c.in-More.is, c.as_slice-in-More.ensures, c.number.ensures.value) refl) c.check_more.ensures.full
