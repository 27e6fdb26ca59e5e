use Rattle.std.proofs.Common.{◌≡◌, true, length}
use Rattle.std.specs.FinMap.Entries.{is_sorted}
use Rattle.steady_map.specs.Shown.{shown}
use Rattle.steady_map.proofs.walk.Walk.next_row.Given as goal

abbrev pub invariant-rows : goal.invariant-rows
invariant-rows g l = record {
  left : shown l.self-inside.walk ≡ l.fn.self;
  sorted : is_sorted g.K.Ord.cmp l.self-inside.walk ≡ true;
}

abbrev pub decreases-rows : goal.decreases-rows
decreases-rows g l = length l.self-inside.walk
