use Rattle.std.proofs.Common.{◌≡◌, ◌+◌, ◌≤◌, ◌++◌, length, reverse, vec_capacity}
use Rattle.btree.proofs.row.move_last.Given as goal

abbrev pub invariant-loop-from : goal.invariant-loop-from
invariant-loop-from g l = record {
  items : l.from.items ++ reverse l.to.items ≡ l.fn.from.items ++ l.fn.to.items;
  moved : length l.to.items + length l.from.items ≡ length l.fn.to.items + length l.fn.from.items;
  left : l.left ≤ length l.from.items;
  capacity : vec_capacity l.to ≡ vec_capacity l.fn.to;
  from_capacity : vec_capacity l.from ≡ vec_capacity l.fn.from;
}

abbrev pub decreases-loop-from : goal.decreases-loop-from
decreases-loop-from g l = length l.from.items
