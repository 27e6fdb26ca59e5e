-- What keeps a job off.
use Rattle.std.proofs.Common.{◌≡◌, ◌<◌, ℕ, Bool, true, false, refl, sym, ap, subst, ◌∙◌, arith}
use Rattle.std.specs.Prelude.{◌==◌, ◌&&◌, not, nat_lt, Option, Some, None, unwrap_or}
use Rattle.std.specs.List.{list_any}
use Rattle.std.specs.Ordering.{nat_cmp}
use Rattle.std.specs.Cmp.{nat_cmp_total, first_so, second_so}
use Rattle.std.proofs.lemmas.Bool.{and_from, eq-eqb, eqb-true, lt-ltb, ltb-true}
use Rattle.std.specs.FinMap as finmap
use Rattle.std.specs.FinMap.{nat_cmp-IsAntisymmetric}
use Rattle.collation.specs.Reference.{Resource}
use Rattle.lock_name.specs.Locks.{resource_cmp, Counts, count_of, JobLocks, LockState, no_locks, conflict, is_blocked}
use Rattle.lock_name.specs.LockStatements.{Holds, BlockedTells}
use Rattle.collation.specs.laws.Entries.{some_entry_of, entry_of}
use Rattle.lock_name.specs.laws.Counting.{resource_cmp_total, resource_cmp-IsAntisymmetric}

pub differ : (a b : ℕ) → (a ≡ b → ⊥) → not (a == b) ≡ true
differ a b ne = by_test (a == b) refl
  where
    by_test : (t : Bool) → (a == b) ≡ t → not t ≡ true
    by_test true e = absurd (ne (eqb-true a b e))
    by_test false e = refl

-- the test of a job's entry
abbrev holds_conflicting : Resource → Resource × ℕ → Bool
holds_conflicting n h = nat_lt 0 h.1 && conflict n h.0

abbrev keeps_off : ℕ → Resource → ℕ × JobLocks → Bool
keeps_off job n j = not (j.0 == job) && list_any (holds_conflicting n) (finmap.entries j.1.held)

not_same : (a b : ℕ) → not (a == b) ≡ true → a ≡ b → ⊥
not_same a b h is = by_test (a == b) refl h
  where
    by_test : (t : Bool) → (a == b) ≡ t → not t ≡ true → ⊥
    by_test true e h = absurd (cc)
    by_test false e h = let t : true ≡ false = sym (eq-eqb a b is) ∙ e in absurd (cc)

no_count : (n : Resource) → 0 < count_of finmap.empty n → ⊥
no_count n h = let none : count_of finmap.empty n ≡ 0 = ap (λ o. unwrap_or o 0) (finmap.get-empty resource_cmp n) in absurd (omega arith)

-- a count above 0 has an entry
entry_counted : (counts : Counts) (x : Resource) → 0 < count_of counts x → (v : ℕ) × (finmap.get counts x ≡ Some v) × (nat_lt 0 v ≡ true)
entry_counted counts x h = by_found (finmap.get counts x) refl h
  where
    by_found : (o : Option ℕ) → finmap.get counts x ≡ o → 0 < unwrap_or o 0 → (v : ℕ) × (finmap.get counts x ≡ Some v) × (nat_lt 0 v ≡ true)
    by_found None is h = absurd (omega arith)
    by_found (Some v) is h = (v, is, lt-ltb 0 v h)

job_there : (s : LockState) (job : ℕ) (x : Resource) → Holds s job x → (l : JobLocks) × (finmap.get s job ≡ Some l) × (0 < count_of l.held x)
job_there s job x h = by_found (finmap.get s job) refl h
  where
    by_found : (o : Option JobLocks) → finmap.get s job ≡ o → 0 < count_of (unwrap_or o no_locks).held x → (l : JobLocks) × (finmap.get s job ≡ Some l) × (0 < count_of l.held x)
    by_found None is h = absurd (no_count x h)
    by_found (Some l) is h = (l, is, h)

pub blocked_tells : BlockedTells
blocked_tells s job n = (onward, back)
  where
    onward : is_blocked s job n ≡ true → (other : ℕ) × (other ≡ job → ⊥) × ((x : Resource) × Holds s other x × (conflict n x ≡ true))
    onward b =
        let j = some_entry_of nat_cmp nat_cmp_total nat_cmp-IsAntisymmetric (keeps_off job n) s b in
        let h = some_entry_of resource_cmp resource_cmp_total resource_cmp-IsAntisymmetric (holds_conflicting n) j.1.0.held (second_so (not (j.0 == job)) _ j.1.2) in
        let count : 0 < count_of j.1.0.held h.0 = subst (λ o. 0 < unwrap_or o 0) (sym h.1.1) (ltb-true 0 h.1.0 (first_so (nat_lt 0 h.1.0) _ h.1.2)) in (
          j.0,
          not_same j.0 job (first_so (not (j.0 == job)) _ j.1.2),
          (h.0, subst (λ o. 0 < count_of (unwrap_or o no_locks).held h.0) (sym j.1.1) count, second_so (nat_lt 0 h.1.0) _ h.1.2),
        )

    back : (other : ℕ) × (other ≡ job → ⊥) × ((x : Resource) × Holds s other x × (conflict n x ≡ true)) → is_blocked s job n ≡ true
    back t =
        let there = job_there s t.0 t.2.0 t.2.1 in
        let counted = entry_counted there.0.held t.2.0 there.2 in
        entry_of nat_cmp nat_cmp_total nat_cmp-IsAntisymmetric (keeps_off job n) s t.0 there.0 there.1
        (and_from _ _ (differ t.0 job t.1) (entry_of resource_cmp resource_cmp_total resource_cmp-IsAntisymmetric (holds_conflicting n) there.0.held t.2.0 counted.0 counted.1 (and_from _ _ counted.2 t.2.2)))
