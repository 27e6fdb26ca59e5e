use Rattle.std.proofs.Common.{◌-◌, ◌≤◌, length, take, drop}
use Rattle.btree.specs.Order.{Each, IsBefore, IsAfter}
use Rattle.btree.proofs.search.place_near.Given as goal

abbrev pub invariant-loop-low : goal.invariant-loop-low
invariant-loop-low g l = record {
  low : l.low ≤ l.high;
  high : l.high ≤ length l.row;
  before : Each (IsBefore g.K.Ord.cmp l.key) (take l.low l.row);
  after : Each (IsAfter g.K.Ord.cmp l.key) (drop l.high l.row);
}

abbrev pub decreases-loop-low : goal.decreases-loop-low
decreases-loop-low g l = l.high - l.low
