use Rattle.std.proofs.Common.{◌≡◌, true}
use Rattle.std.specs.FinMap.{is_sorted}
use Rattle.collation.specs.Order.{ref_cmp}
use Rattle.version_store.specs.Versions.{later}
use Rattle.version_store.specs.Tied.{newest_below, AreOpen}
use Rattle.version_store.proofs.range.newest_left.Given as goal

abbrev pub invariant-loop-key : goal.invariant-loop-key
invariant-loop-key l = record {
  can_next : goal.iterator-loop-key.can_next l.key-iterator;
  is_finite : goal.iterator-loop-key.is_finite l.key-iterator;
  opened : AreOpen l.chains l.key-iterator;
  sorted : is_sorted ref_cmp l.key-iterator ≡ true;
  same : later l.newest (newest_below l.high l.chains l.key-iterator) ≡ newest_below l.high l.chains l.fn.walk;
}
