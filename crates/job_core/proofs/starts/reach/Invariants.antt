use Rattle.std.proofs.Common.{◌≡◌, ◌≤◌, ℕ, max, length, slice_index_or, ◌+◌, ◌-◌}
use Rattle.job_core.proofs.starts.reach.Given as goal

-- no job's place changes, and there are none above the number
abbrev pub invariant-loop-places : goal.invariant-loop-places
invariant-loop-places l =
    ((job : ℕ) → slice_index_or l.places.items job 0 ≡ slice_index_or l.initial.places.items job 0)
    × (length l.places.items ≤ max (length l.initial.places.items) (l.number + 1))

abbrev pub decreases-loop-places : goal.decreases-loop-places
decreases-loop-places l = l.number + 1 - length l.places.items
