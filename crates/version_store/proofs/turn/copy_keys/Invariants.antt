use Rattle.std.proofs.Common.{◌≡◌, ◌++◌, ◌-◌, length}
use Rattle.std.specs.Prelude.{take}
use Rattle.version_store.specs.Versions.{keys_of}
use Rattle.version_store.proofs.turn.copy_keys.Given as goal

abbrev pub invariant-loop-key : goal.invariant-loop-key
invariant-loop-key l = record {
  can_next : goal.iterator-loop-key.can_next l.key-iterator;
  is_finite : goal.iterator-loop-key.is_finite l.key-iterator;
  same : l.keys.items ++ take (l.limit - length l.keys.items) (keys_of l.key-iterator) ≡ l.initial.keys.items ++ take (l.limit - length l.initial.keys.items) (keys_of l.fn.walk);
}
