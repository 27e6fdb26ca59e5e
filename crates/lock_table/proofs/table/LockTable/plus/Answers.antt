use Rattle.lock_table.proofs.Tables.{refused_by}
use Rattle.lock_table.proofs.table.LockTable.plus.Goals as goal

pub returns-in-Err-clause-refused : goal.returns-in-Err-clause-refused
returns-in-Err-clause-refused c = refused_by _ c.in-Err.refusal (rw (c.number-number.ensures.value, c.as_slice-2.ensures) at c.in-Err.ensures.full)
