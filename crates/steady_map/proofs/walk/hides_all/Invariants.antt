use Rattle.std.proofs.Common.{◌≡◌, drop}
use Rattle.steady_map.specs.Shown.{shown}
use Rattle.steady_map.proofs.walk.hides_all.Given as goal

abbrev pub invariant-pairs : goal.invariant-pairs
invariant-pairs g l = record {
  passed : shown l.row ≡ shown (drop l.held-index l.row);
}
