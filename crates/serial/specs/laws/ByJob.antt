-- Finite maps by job, and each job's locks.
use Rattle.std.proofs.Common.{◌≡◌, ℕ, Bool, true, false, refl, sym, ap, ◌∙◌, ◌⊎◌, inl, inr}
use Rattle.std.specs.Prelude.{cond, Option, Some, None, unwrap_or}
use Rattle.std.specs.Ordering.{nat_cmp, eq_by_cmp, is_eq}
use Rattle.std.specs.Cmp.{nat_cmp_total, tied_itself}
use Rattle.std.specs.FinMap as finmap
use Rattle.std.specs.FinMap.{nat_cmp-IsAntisymmetric, FinMap}
use Rattle.collation.specs.laws.Order.{is_equal}
use Rattle.lock_name.specs.Locks.{JobLocks, LockState, no_locks, locks_of, changed}

here : (job : ℕ) → eq_by_cmp nat_cmp job job ≡ true
here job = ap is_eq (tied_itself nat_cmp_total job)

apart : (q job : ℕ) → (q ≡ job → ⊥) → eq_by_cmp nat_cmp q job ≡ false
apart q job ne = by_test (eq_by_cmp nat_cmp q job) refl
  where
    by_test : (b : Bool) → eq_by_cmp nat_cmp q job ≡ b → b ≡ false
    by_test true e = absurd (ne (nat_cmp-IsAntisymmetric q job (is_equal (nat_cmp q job) e)))
    by_test false e = refl

-- one job is the other or not
pub same_or_not : (job q : ℕ) → (q ≡ job) ⊎ (job ≡ q → ⊥)
same_or_not job q = by_test (eq_by_cmp nat_cmp q job) refl
  where
    by_test : (b : Bool) → eq_by_cmp nat_cmp q job ≡ b → (q ≡ job) ⊎ (job ≡ q → ⊥)
    by_test true e = inl (nat_cmp-IsAntisymmetric q job (is_equal (nat_cmp q job) e))
    by_test false e = inr (λ is. let t : true ≡ false = sym (ap (λ z. eq_by_cmp nat_cmp z job) (sym is) ∙ here job) ∙ e in absurd (cc))

module _ {X : Type 0} where
  pub get_here : (m : FinMap nat_cmp X) (job : ℕ) (x : X) → finmap.get (finmap.insert m job x) job ≡ Some x
  get_here m job x = finmap.get-insert nat_cmp_total m job x job ∙ ap (λ b. cond b (Some x) (finmap.get m job)) (here job)

  pub get_apart : (m : FinMap nat_cmp X) (job : ℕ) (x : X) (q : ℕ) → (q ≡ job → ⊥) → finmap.get (finmap.insert m job x) q ≡ finmap.get m q
  get_apart m job x q ne = finmap.get-insert nat_cmp_total m job x q ∙ ap (λ b. cond b (Some x) (finmap.get m q)) (apart q job ne)

  pub gone_here : (m : FinMap nat_cmp X) (job : ℕ) → finmap.get (finmap.remove m job) job ≡ None
  gone_here m job = finmap.get-remove nat_cmp_total m job job ∙ ap (λ b. cond b None (finmap.get m job)) (here job)

  pub gone_apart : (m : FinMap nat_cmp X) (job q : ℕ) → (q ≡ job → ⊥) → finmap.get (finmap.remove m job) q ≡ finmap.get m q
  gone_apart m job q ne = finmap.get-remove nat_cmp_total m job q ∙ ap (λ b. cond b None (finmap.get m q)) (apart q job ne)

-- ---- a job's locks

pub locks_put : (s : LockState) (job : ℕ) (l : JobLocks) → locks_of job (finmap.insert s job l) ≡ l
locks_put s job l = ap (λ o. unwrap_or o no_locks) (get_here s job l)

pub locks_put_apart : (s : LockState) (job : ℕ) (l : JobLocks) (q : ℕ) → (q ≡ job → ⊥) → locks_of q (finmap.insert s job l) ≡ locks_of q s
locks_put_apart s job l q ne = ap (λ o. unwrap_or o no_locks) (get_apart s job l q ne)

pub locks_gone : (s : LockState) (job : ℕ) → locks_of job (finmap.remove s job) ≡ no_locks
locks_gone s job = ap (λ o. unwrap_or o no_locks) (gone_here s job)

pub locks_gone_apart : (s : LockState) (job q : ℕ) → (q ≡ job → ⊥) → locks_of q (finmap.remove s job) ≡ locks_of q s
locks_gone_apart s job q ne = ap (λ o. unwrap_or o no_locks) (gone_apart s job q ne)

pub no_locks_yet : (job : ℕ) → locks_of job finmap.empty ≡ no_locks
no_locks_yet job = ap (λ o. unwrap_or o no_locks) (finmap.get-empty nat_cmp job)

-- a job without an entry has no locks, which the change leaves
pub locks_changed : (change : JobLocks → JobLocks) (s : LockState) (job : ℕ) → change no_locks ≡ no_locks → locks_of job (changed change job s (finmap.get s job)) ≡ change (locks_of job s)
locks_changed change s job nothing = by_entry (finmap.get s job) refl
  where
    by_entry : (o : Option JobLocks) → finmap.get s job ≡ o → locks_of job (changed change job s o) ≡ change (unwrap_or o no_locks)
    by_entry None is = ap (λ o. unwrap_or o no_locks) is ∙ sym nothing
    by_entry (Some l) is = locks_put s job (change l)

pub locks_changed_apart : (change : JobLocks → JobLocks) (s : LockState) (job q : ℕ) → (q ≡ job → ⊥) → locks_of q (changed change job s (finmap.get s job)) ≡ locks_of q s
locks_changed_apart change s job q ne = by_entry (finmap.get s job)
  where
    by_entry : (o : Option JobLocks) → locks_of q (changed change job s o) ≡ locks_of q s
    by_entry None = refl
    by_entry (Some l) = locks_put_apart s job (change l) q ne
