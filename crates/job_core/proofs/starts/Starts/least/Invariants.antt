use Rattle.std.proofs.Common.{◌≡◌, ◌⊎◌, ℕ, Some, Contains}
use Rattle.slab.specs.Slab.{get}
use Rattle.job_core.proofs.Begun.{IsAtMost}
use Rattle.job_core.proofs.starts.Starts.least.Given as goal

-- each stamp is left, or isn't before the least so far, which is one of them
abbrev pub invariant-stamps : goal.invariant-stamps
invariant-stamps l =
    (goal.iterator-stamps).can_next l.stamp-iterator
    × (goal.iterator-stamps).is_finite l.stamp-iterator
    × ((place stamp : ℕ) → get l.self.stamps place ≡ Some stamp → (IsAtMost l.least stamp) ⊎ Contains l.stamp-iterator (place, stamp))
    × ((place stamp : ℕ) → Contains l.stamp-iterator (place, stamp) → get l.self.stamps place ≡ Some stamp)
    × ((stamp : ℕ) → l.least ≡ Some stamp → (place : ℕ) × (get l.self.stamps place ≡ Some stamp))
