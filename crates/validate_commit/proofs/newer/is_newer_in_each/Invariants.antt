use Rattle.std.proofs.Common.{◌≡◌, true, drop}
use Rattle.collation.specs.Reference.{Reference}
use Rattle.read_ranges.specs.Ranges.{is_in_one}
use Rattle.validate_commit.specs.Newer.{NoneNewerRead}
use Rattle.validate_commit.proofs.newer.is_newer_in_each.Given as goal

-- what the ranges that are left have, all have; and where these have none, none has
abbrev pub invariant-loop-range : goal.invariant-loop-range
invariant-loop-range l = record {
  inside : (x : Reference) → is_in_one (drop l.range-index l.ranges) x ≡ true → is_in_one l.ranges x ≡ true;
  left : NoneNewerRead l.store.versions l.stamp (drop l.range-index l.ranges) → NoneNewerRead l.store.versions l.stamp l.ranges;
}
