use Rattle.std.proofs.Common.{◌≡◌, length}
use Rattle.steady_map.specs.Shown.{shown}
use Rattle.steady_map.proofs.walk.WalkBackIterator.next.Given as goal

abbrev pub invariant-pairs : goal.invariant-pairs
invariant-pairs g l = shown l.self-inside.walk ≡ l.fn.self

abbrev pub decreases-pairs : goal.decreases-pairs
decreases-pairs g l = length l.self-inside.walk
