use Rattle.lock_table.proofs.Smalls.{small_empty}
use Rattle.lock_table.proofs.counts.Counts.new.Goals as goal

pub invariant_of-result : goal.invariant_of-result
invariant_of-result c = rw c.new.ensures small_empty
