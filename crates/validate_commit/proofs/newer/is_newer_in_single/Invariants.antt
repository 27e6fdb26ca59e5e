use Rattle.std.proofs.Common.{◌≡◌, true, drop}
use Rattle.collation.specs.Reference.{Reference}
use Rattle.validate_commit.specs.Newer.{is_in_single, NoneNewerIn}
use Rattle.validate_commit.proofs.newer.is_newer_in_single.Given as goal

-- what the ranges that are left have, all have; and where these have none, none has
abbrev pub invariant-loop-range : goal.invariant-loop-range
invariant-loop-range l = record {
  inside : (x : Reference) → is_in_single (drop l.range-index l.ranges) x ≡ true → is_in_single l.ranges x ≡ true;
  left : NoneNewerIn l.store.versions l.stamp (is_in_single (drop l.range-index l.ranges)) → NoneNewerIn l.store.versions l.stamp (is_in_single l.ranges);
}
