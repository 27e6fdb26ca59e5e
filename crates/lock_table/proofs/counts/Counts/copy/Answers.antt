use Rattle.lock_table.proofs.Smalls.{small_along}
use Rattle.lock_table.proofs.counts.Counts.copy.Goals as goal

pub invariant_of-result : goal.invariant_of-result
invariant_of-result c = small_along _ _ c.in_ok-map.ensures c.self.invariant
