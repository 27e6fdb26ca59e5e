use Rattle.std.proofs.Common.{ap}
use Rattle.std.specs.FinMap as finmap
use Rattle.lock_table.proofs.Tables.{joined_empty}
use Rattle.lock_table.proofs.table.LockTable.new.Goals as goal

pub invariant_of-result : goal.invariant_of-result
invariant_of-result c = joined_empty c.new-2.result (finmap.from_entries c.new.result.entries) (ap finmap.from_entries c.new.ensures.empty) c.new-2.ensures
