use Rattle.std.proofs.Common.{◌≡◌, ◌≤◌, ◌-◌, ℕ, List, ◌++◌, length, drop}
use Rattle.collation.specs.Reference.{Reference}
use Rattle.overlay_view.specs.Merging.{joined}
use Rattle.overlay_view.proofs.gathering.join_both.Given as goal

abbrev pub invariant-loop-own_key : goal.invariant-loop-own_key
invariant-loop-own_key l = record {
  all : (x y : List (Reference × List ℕ)) → joined (l.own ++ x) (l.below ++ y) ≡ l.run ++ joined (drop l.of_own l.own ++ x) (drop l.of_below l.below ++ y);
  own : l.of_own ≤ length l.run;
  below : l.of_below ≤ length l.run;
  few : length l.run ≤ l.most;
}

abbrev pub decreases-loop-own_key : goal.decreases-loop-own_key
decreases-loop-own_key l = l.most - length l.run
