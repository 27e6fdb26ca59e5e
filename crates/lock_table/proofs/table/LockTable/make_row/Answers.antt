use Rattle.std.proofs.Common.{sym, ◌∙◌}
use Rattle.lock_name.specs.Locks.{no_locks}
use Rattle.lock_table.proofs.Tables.{no_row, put_there}
use Rattle.lock_table.proofs.table.LockTable.make_row.Goals as goal

pub add_row-requires : goal.add_row-requires
add_row-requires c = no_row _ (sym c.if-has_row.false ∙ c.has_row.ensures)

pub returns-in-Ok-clause-fresh : goal.returns-in-Ok-clause-fresh
returns-in-Ok-clause-fresh c h = no_row _ (sym c.if-has_row.false ∙ c.has_row.ensures)

pub returns-in-Ok-clause-there : goal.returns-in-Ok-clause-there
returns-in-Ok-clause-there c = put_there c.args.self.now c.add_row.new.self c.args.job no_locks c.in-Ok.ensures.ok
