use Rattle.std.proofs.Common.{◌≡◌, ◌≤◌, ◌-◌, drop}
use Rattle.journal_lines.proofs.place.pass_units.Given as goal

-- so many were passed
abbrev pub invariant-passed : goal.invariant-passed
invariant-passed l = record {
  passed : l.units ≡ drop l.passed l.fn.units;
  most : l.passed ≤ l.count;
}

abbrev pub decreases-passed : goal.decreases-passed
decreases-passed l = l.count - l.passed
