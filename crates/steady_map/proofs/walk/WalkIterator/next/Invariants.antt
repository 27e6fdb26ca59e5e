use Rattle.std.proofs.Common.{◌≡◌, true, length}
use Rattle.std.specs.FinMap.Entries.{is_sorted}
use Rattle.steady_map.specs.Shown.{shown}
use Rattle.steady_map.proofs.walk.WalkIterator.next.Given as goal

abbrev pub invariant-pairs : goal.invariant-pairs
invariant-pairs g l = record {
  left : shown l.self-inside.walk ≡ l.fn.self;
  sorted : is_sorted g.K.Ord.cmp l.self-inside.walk ≡ true;
}

abbrev pub decreases-pairs : goal.decreases-pairs
decreases-pairs g l = length l.self-inside.walk
