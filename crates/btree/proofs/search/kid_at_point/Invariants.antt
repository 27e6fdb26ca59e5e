use Rattle.std.proofs.Common.{◌-◌, ◌≤◌, ◌≡◌, length, take, drop, true, false}
use Rattle.btree.specs.Order.{Each}
use Rattle.btree.proofs.search.kid_at_point.Given as goal

abbrev pub invariant-loop-low : goal.invariant-loop-low
invariant-loop-low g l = record {
  low : l.low ≤ l.high;
  high : l.high ≤ length l.separators;
  before : Each (λ s. g.P.Point.before l.point s ≡ true) (take l.low l.separators);
  after : Each (λ s. g.P.Point.before l.point s ≡ false) (drop l.high l.separators);
}

abbrev pub decreases-loop-low : goal.decreases-loop-low
decreases-loop-low g l = l.high - l.low
