use Rattle.std.proofs.Common.{◌≡◌, drop, map}
use Rattle.version_store.specs.Versions.{Versions, all_placed}
use Rattle.version_store.specs.Tied.{AreKeysOf}
use Rattle.version_store.proofs.place.count_along.Given as goal

abbrev pub invariant-loop-key : goal.invariant-loop-key
invariant-loop-key l = record {
  counted : l.count ≡ l.key-index;
  left : (m : Versions) → AreKeysOf m l.fn.walk → AreKeysOf m l.walk;
  along : (m : Versions) → AreKeysOf m l.fn.walk → all_placed (map (λ c. c.0) (drop l.key-index l.changes)) m ≡ all_placed (map (λ c. c.0) l.changes) m;
}
