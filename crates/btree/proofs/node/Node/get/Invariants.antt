use Rattle.std.proofs.Common.{◌≡◌, ◌+◌, ◌≤◌}
use Rattle.std.specs.FinMap.Entries.{find}
use Rattle.btree.specs.Order.{Ascends}
use Rattle.btree.proofs.node.Node.get.Given as goal

abbrev pub invariant-loop-separators : goal.invariant-loop-separators
invariant-loop-separators g l = record {
  sorted : Ascends g.K.Ord.cmp l.here.pairs;
  low : l.fn.trail.visits ≤ l.trail.visits;
  counts : l.trail.visits + l.here.height ≡ l.fn.trail.visits + l.fn.self.height;
  found : find g.K.Ord.cmp l.fn.key l.here.pairs ≡ find g.K.Ord.cmp l.fn.key l.fn.self.pairs;
}

abbrev pub decreases-loop-separators : goal.decreases-loop-separators
decreases-loop-separators g l = l.here.height
