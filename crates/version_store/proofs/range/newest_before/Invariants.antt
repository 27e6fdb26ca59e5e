use Rattle.std.proofs.Common.{◌≡◌, true, length}
use Rattle.std.specs.FinMap.{is_sorted}
use Rattle.collation.specs.Order.{ref_cmp}
use Rattle.version_store.specs.Versions.{later}
use Rattle.version_store.specs.Tied.{newest_below, AreOpen}
use Rattle.version_store.proofs.range.newest_before.Given as goal

abbrev pub invariant-loop-last : goal.invariant-loop-last
invariant-loop-last l = record {
  opened : AreOpen l.chains l.walk;
  sorted : is_sorted ref_cmp l.walk ≡ true;
  same : later l.newest (newest_below l.high l.chains l.walk) ≡ newest_below l.high l.chains l.fn.walk;
}

abbrev pub decreases-loop-last : goal.decreases-loop-last
decreases-loop-last l = length l.walk
