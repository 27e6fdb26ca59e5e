use Rattle.std.proofs.Common.{◌≡◌}
use Rattle.globals.specs.Cuts.{front_down_to}
use Rattle.version_store.specs.Versions.{seen_at, first_of}
use Rattle.version_store.specs.Tied.{rows, AreOpen}
use Rattle.version_store.proofs.seek.last_valued.Given as goal

abbrev pub invariant-loop-key : goal.invariant-loop-key
invariant-loop-key l = record {
  can_next : goal.iterator-loop-key.can_next l.key-iterator;
  is_finite : goal.iterator-loop-key.is_finite l.key-iterator;
  opened : AreOpen l.chains l.key-iterator;
  same : first_of (seen_at l.stamp (rows l.chains (front_down_to l.floor l.key-iterator))) ≡ first_of (seen_at l.stamp (rows l.chains (front_down_to l.floor l.fn.walk)));
}
