use Rattle.std.proofs.Common.{◌≡◌, ◌+◌, true, length}
use Rattle.std.specs.List.{filter}
use Rattle.std.specs.FinMap.Entries.{is_sorted}
use Rattle.steady_map.proofs.map.count_before.Given as goal

abbrev pub invariant-loop-key : goal.invariant-loop-key
invariant-loop-key g l = record {
  can_next : (goal.iterator-loop-key g).can_next l.key-iterator;
  is_finite : (goal.iterator-loop-key g).is_finite l.key-iterator;
  sorted : is_sorted g.K.Ord.cmp l.key-iterator ≡ true;
  counted : l.count + length (filter (λ e. g.Q.Point.before l.to e.0) l.key-iterator) ≡ length (filter (λ e. g.Q.Point.before l.to e.0) l.fn.walk);
}
