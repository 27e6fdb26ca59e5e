use Rattle.std.proofs.Common.{◌≡◌, ◌<◌, ◌++◌, length, drop, true}
use Rattle.std.specs.FinMap.{is_sorted}
use Rattle.collation.specs.Order.{ref_cmp}
use Rattle.steady_map.specs.Shown.{shown}
use Rattle.version_store.specs.Tied.{reaches, seen_to, AreOpen}
use Rattle.version_store.proofs.seek.gather_row.Given as goal

abbrev pub invariant-loop-key : goal.invariant-loop-key
invariant-loop-key l = record {
  opened : AreOpen l.chains (shown (drop l.key-index l.row));
  rises : is_sorted ref_cmp (shown (drop l.key-index l.row)) ≡ true;
  room : length l.run < l.most;
  same : l.initial.run ++ seen_to l.end l.stamp l.chains (shown l.row) ≡ l.run ++ seen_to l.end l.stamp l.chains (shown (drop l.key-index l.row));
  met : reaches l.end (shown (drop l.key-index l.row)) ≡ true → reaches l.end (shown l.row) ≡ true;
}
