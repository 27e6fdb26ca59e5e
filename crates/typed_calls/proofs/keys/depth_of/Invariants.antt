use Rattle.std.proofs.Common.{◌≡◌, ◌+◌, ◌-◌, ◌≤◌, ◌^◌, min, length}
use Rattle.typed_calls.proofs.keys.depth_of.Given as goal

-- what is counted and what is left are together all subscripts
abbrev pub invariant-subscripts : goal.invariant-subscripts
invariant-subscripts l = record {
  steps : goal.iterator-subscripts.can_next l._subscript-iterator × goal.iterator-subscripts.is_finite l._subscript-iterator;
  counted : min (l.depth + length l._subscript-iterator) (2 ^ 64 - 1) ≡ min (length l.key.subscripts) (2 ^ 64 - 1);
  low : l.depth ≤ 2 ^ 64 - 1;
}
