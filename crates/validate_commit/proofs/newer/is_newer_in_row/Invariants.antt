use Rattle.std.proofs.Common.{◌≡◌, true, drop}
use Rattle.std.specs.List.{list_any}
use Rattle.collation.specs.Reference.{Reference}
use Rattle.read_ranges.specs.Ranges.{is_in, between}
use Rattle.validate_commit.specs.Newer.{NoneNewerIn}
use Rattle.validate_commit.proofs.newer.is_newer_in_row.Given as goal

-- what the ranges that are left have, all have; where these have none, none has; and between the cuts is none
abbrev pub invariant-loop-range : goal.invariant-loop-range
invariant-loop-range l = record {
  inside : (x : Reference) → list_any (λ r. is_in r.now x) (drop l.range-index l.ranges) ≡ true → list_any (λ r. is_in r.now x) l.ranges ≡ true;
  left : NoneNewerIn l.store.versions l.stamp (λ x. list_any (λ r. is_in r.now x) (drop l.range-index l.ranges)) → NoneNewerIn l.store.versions l.stamp (λ x. list_any (λ r. is_in r.now x) l.ranges);
  clear : NoneNewerIn l.store.versions l.stamp (between l.low l.high);
}
