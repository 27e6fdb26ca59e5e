use Rattle.std.proofs.Common.{◌≡◌, drop}
use Rattle.std.specs.Prelude.{◌||◌}
use Rattle.std.specs.List.{list_any}
use Rattle.collation.specs.Reference.{Reference}
use Rattle.read_ranges.specs.Ranges.{is_in}
use Rattle.validate_commit.specs.Newer.{is_in_wide}
use Rattle.validate_commit.proofs.newer.wide_in_order.Given as goal

-- those that are listed, with those that are left, have what all have
abbrev pub invariant-loop-range : goal.invariant-loop-range
invariant-loop-range l = record {
  listed : (x : Reference) → (list_any (λ r. is_in r.now x) l.wide.items || is_in_wide (drop l.range-index l.ranges) x) ≡ is_in_wide l.ranges x;
}
