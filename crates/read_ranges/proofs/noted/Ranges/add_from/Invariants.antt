use Rattle.std.proofs.Common.{◌≡◌}
use Rattle.read_ranges.proofs.noted.Ranges.add_from.Given as goal

abbrev pub invariant-loop-i : goal.invariant-loop-i
invariant-loop-i l = l.self ≡ l.initial.self
