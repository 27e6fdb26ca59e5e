-- One count in the trie is changed.
use Rattle.std.proofs.Common.{◌≡◌, ℕ, Bool, true, false, refl, ap, ◌∙◌}
use Rattle.std.specs.Prelude.{cond, ◌&&◌}
use Rattle.std.specs.Ordering.{nat_cmp, is_eq, eq_by_cmp}
use Rattle.std.specs.Cmp.{nat_cmp_total, tied_itself}
use Rattle.std.specs.FinMap.{nat_cmp-IsAntisymmetric}
use Rattle.collation.specs.Reference.{Resource}
use Rattle.collation.specs.laws.Order.{is_equal}
use Rattle.lock_name.specs.Locks.{resource_cmp}
use Rattle.lock_name.specs.laws.Counting.{same_resource}
use Rattle.lock_trie.specs.Held.{Held, held_count, IsRecounted}
use Rattle.lock_table.specs.Rows.{AreOthersSame}

pub at_job : (old new : Held) (job : ℕ) (n : Resource) (v : ℕ) → IsRecounted old new job n v → (x : Resource) → held_count new job x ≡ cond (eq_by_cmp resource_cmp x n) v (held_count old job x)
at_job old new job n v is x = is job x ∙ ap (λ t. cond (is_eq t && eq_by_cmp resource_cmp x n) v (held_count old job x)) (tied_itself nat_cmp_total job)

pub at_other : (old now new : Held) (job : ℕ) (n : Resource) (v : ℕ) → IsRecounted now new job n v → AreOthersSame old now job → AreOthersSame old new job
at_other old now new job n v is same other x apart = is other x ∙ by_test (eq_by_cmp nat_cmp other job) refl ∙ same other x apart
  where
    by_test : (b : Bool) → eq_by_cmp nat_cmp other job ≡ b → cond (b && eq_by_cmp resource_cmp x n) v (held_count now other x) ≡ held_count now other x
    by_test true e = absurd (apart (nat_cmp-IsAntisymmetric other job (is_equal (nat_cmp other job) e)))
    by_test false e = refl

-- it stays as it is where it is what it is to be
pub recounted_same : (t : Held) (job : ℕ) (n : Resource) (v : ℕ) → held_count t job n ≡ v → IsRecounted t t job n v
recounted_same t job n v is other x = by_tests (eq_by_cmp nat_cmp other job) (eq_by_cmp resource_cmp x n) refl refl
  where
    by_tests : (b d : Bool) → eq_by_cmp nat_cmp other job ≡ b → eq_by_cmp resource_cmp x n ≡ d → held_count t other x ≡ cond (b && d) v (held_count t other x)
    by_tests true true e f = ap (λ j. held_count t j x) (nat_cmp-IsAntisymmetric other job (is_equal (nat_cmp other job) e)) ∙ ap (held_count t job) (same_resource x n f) ∙ is
    by_tests true false e f = refl
    by_tests false d e f = refl
