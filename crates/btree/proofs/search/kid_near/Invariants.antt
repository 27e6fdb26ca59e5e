use Rattle.std.proofs.Common.{◌-◌, ◌≡◌, ◌≤◌, length, take, drop}
use Rattle.std.specs.declared.cmp.Ordering.TheVariants.{Less}
use Rattle.btree.specs.Order.{Each}
use Rattle.btree.specs.Parts.{IsFrom}
use Rattle.btree.proofs.search.kid_near.Given as goal

abbrev pub invariant-loop-low : goal.invariant-loop-low
invariant-loop-low g l = record {
  low : l.low ≤ l.high;
  high : l.high ≤ length l.separators;
  from : Each (λ s. IsFrom g.K.Ord.cmp s l.key) (take l.low l.separators);
  under : Each (λ s. g.K.Ord.cmp l.key s ≡ Less) (drop l.high l.separators);
}

abbrev pub decreases-loop-low : goal.decreases-loop-low
decreases-loop-low g l = l.high - l.low
