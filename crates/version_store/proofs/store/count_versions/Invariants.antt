use Rattle.std.proofs.Common.{◌≡◌, ◌+◌, ◌-◌, ◌^◌, ◌<◌, min}
use Rattle.version_store.specs.Versions.{count_in}
use Rattle.version_store.specs.Tied.{rows, AreOpen}
use Rattle.version_store.proofs.store.count_versions.Given as goal

-- with what is left it will be the whole
abbrev pub invariant-loop-id : goal.invariant-loop-id
invariant-loop-id l = record {
  can_next : goal.iterator-loop-id.can_next l.id-iterator;
  is_finite : goal.iterator-loop-id.is_finite l.id-iterator;
  opened : AreOpen l.chains l.id-iterator;
  few : l.count < 2 ^ 64;
  same : min (l.count + count_in (rows l.chains l.id-iterator)) (2 ^ 64 - 1) ≡ min (count_in (rows l.chains l.fn.walk)) (2 ^ 64 - 1);
}
