use Rattle.std.proofs.Common.{◌≡◌, ◌++◌, ◌-◌, length, true}
use Rattle.std.specs.Prelude.{filter, take}
use Rattle.std.specs.FinMap.{is_sorted}
use Rattle.collation.specs.Order.{ref_cmp}
use Rattle.globals.specs.Cuts.{stands_before}
use Rattle.version_store.specs.Versions.{keys_of}
use Rattle.version_store.proofs.turn.copy_keys_before.Given as goal

abbrev pub invariant-loop-key : goal.invariant-loop-key
invariant-loop-key l = record {
  can_next : goal.iterator-loop-key.can_next l.key-iterator;
  is_finite : goal.iterator-loop-key.is_finite l.key-iterator;
  sorted : is_sorted ref_cmp l.key-iterator ≡ true;
  same : l.keys.items ++ take (l.limit - length l.keys.items) (filter (stands_before l.high) (keys_of l.key-iterator)) ≡ l.initial.keys.items ++ take (l.limit - length l.initial.keys.items) (filter (stands_before l.high) (keys_of l.fn.walk));
}
