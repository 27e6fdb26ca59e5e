use Rattle.std.proofs.Common.{◌≡◌, ◌<◌, ◌++◌, length, true}
use Rattle.std.specs.FinMap.{is_sorted}
use Rattle.collation.specs.Order.{ref_cmp}
use Rattle.version_store.specs.Tied.{seen_to, AreOpen}
use Rattle.version_store.proofs.seek.gather_valued.Given as goal

abbrev pub invariant-rows : goal.invariant-rows
invariant-rows l = record {
  opened : AreOpen l.chains l.walk;
  rises : is_sorted ref_cmp l.walk ≡ true;
  room : length l.run < l.most;
  all : seen_to l.end l.stamp l.chains l.fn.walk ≡ l.run ++ seen_to l.end l.stamp l.chains l.walk;
}

abbrev pub decreases-rows : goal.decreases-rows
decreases-rows l = length l.walk
