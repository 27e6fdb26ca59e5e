use Rattle.std.proofs.Common.{◌≡◌, ◌+◌, ◌-◌, ℕ, false, get_or, length}
use Rattle.job_core.specs.AtWork.{tally}
use Rattle.job_core.proofs.at_work.reach.Given as goal

-- no flag was set
abbrev pub invariant-loop-ends : goal.invariant-loop-ends
invariant-loop-ends l = record {
  count : tally l.ends.items ≡ tally l.initial.ends.items;
  same : (n : ℕ) → get_or l.ends.items n false ≡ get_or l.initial.ends.items n false;
}

abbrev pub decreases-loop-ends : goal.decreases-loop-ends
decreases-loop-ends l = l.number + 1 - length l.ends.items
