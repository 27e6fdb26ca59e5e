use Rattle.std.proofs.Common.{◌≡◌, true, drop}
use Rattle.std.specs.FinMap.{is_sorted}
use Rattle.collation.specs.Order.{ref_cmp}
use Rattle.steady_map.specs.Shown.{shown}
use Rattle.version_store.specs.Versions.{later}
use Rattle.version_store.specs.Tied.{newest_below, AreOpen}
use Rattle.version_store.proofs.range.newest_of_front.Given as goal

abbrev pub invariant-loop-key : goal.invariant-loop-key
invariant-loop-key l = record {
  opened : AreOpen l.chains (shown (drop l.key-index l.row));
  sorted : is_sorted ref_cmp (drop l.key-index l.row) ≡ true;
  same : later l.newest (newest_below l.high l.chains (shown (drop l.key-index l.row))) ≡ newest_below l.high l.chains (shown l.row);
}
