use Rattle.std.proofs.Common.{◌∙◌}
use Rattle.lock_table.proofs.Tables.{empty_locks, empty_gone}
use Rattle.lock_table.proofs.table.LockTable.end.Goals as goal

pub remove-requires : goal.remove-requires
remove-requires c = empty_locks c.args.self.now c.empty.new.self c.args.job c.empty.ensures

pub returns : goal.returns
returns c = c.remove.ensures ∙ empty_gone c.args.self.now c.empty.new.self c.args.job c.empty.ensures
