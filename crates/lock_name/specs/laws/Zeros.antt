-- Counts without zeros: a resource that is had no time has no entry, so that counts that tell the same are one map.
use Rattle.std.proofs.Common.{zero, suc, ◌≡◌, ◌≤◌, ◌<◌, ℕ, ◌+◌, Bool, true, false, List, [], ◌∷◌, length, take, drop, refl, sym, ap, subst, ◌∙◌, arith}
use Rattle.std.specs.Prelude.{◌-◌, ◌||◌, cond, filter, fold, max, nat_le, Option, Some, None, unwrap_or}
use Rattle.std.specs.List.{list_any}
use Rattle.std.specs.Ordering.{eq_by_cmp}
use Rattle.std.proofs.lemmas.Bool.{leb-true}
use Rattle.std.specs.FinMap as finmap
use Rattle.collation.specs.Reference.{Resource}
use Rattle.lock_name.specs.Locks.{resource_cmp, Counts, HasNoZeros, count_of, more_of, one_fewer, fewer_of, greater}
use Rattle.collation.specs.laws.Entries.{some_entry_of}
use Rattle.lock_name.specs.LockStatements.{times}
use Rattle.lock_name.specs.laws.Counting.{resource_cmp_total, resource_cmp-IsAntisymmetric, counts_tell}

pub none_empty : HasNoZeros finmap.empty
none_empty n v e = let none : None ≡ Some v = sym (finmap.get-empty resource_cmp n) ∙ e in absurd (cc)

same_value : (v w : ℕ) → Some v ≡ Some w → v ≡ w
same_value v w e = ap (λ o. unwrap_or o 0) e

pub none_insert : (counts : Counts) (n : Resource) (v : ℕ) → 0 < v → HasNoZeros counts → HasNoZeros (finmap.insert counts n v)
none_insert counts n v h none x w e = by_test (eq_by_cmp resource_cmp x n) (sym (finmap.get-insert resource_cmp_total counts n v x) ∙ e)
  where
    by_test : (b : Bool) → cond b (Some v) (finmap.get counts x) ≡ Some w → 0 < w
    by_test true e = subst (λ z. 0 < z) (same_value v w e) h
    by_test false e = none x w e

pub none_remove : (counts : Counts) (n : Resource) → HasNoZeros counts → HasNoZeros (finmap.remove counts n)
none_remove counts n none x w e = by_test (eq_by_cmp resource_cmp x n) (sym (finmap.get-remove resource_cmp_total counts n x) ∙ e)
  where
    by_test : (b : Bool) → cond b None (finmap.get counts x) ≡ Some w → 0 < w
    by_test true e = absurd (cc)
    by_test false e = none x w e

pub none_more : (ns : List Resource) (counts : Counts) → HasNoZeros counts → HasNoZeros (more_of ns counts)
none_more [] counts none = none
none_more (n ∷ ns) counts none = none_more ns (finmap.insert counts n (count_of counts n + 1)) (none_insert counts n (count_of counts n + 1) (omega arith) none)

none_one_fewer : (counts : Counts) (n : Resource) → HasNoZeros counts → HasNoZeros (one_fewer counts n)
none_one_fewer counts n none = by_test (nat_le (count_of counts n) 1) refl
  where
    by_test : (b : Bool) → nat_le (count_of counts n) 1 ≡ b → HasNoZeros (cond b (finmap.remove counts n) (finmap.insert counts n (count_of counts n - 1)))
    by_test true e = none_remove counts n none
    by_test false e = none_insert counts n (count_of counts n - 1) (above_one (count_of counts n) e) none
      where
        above_one : (c : ℕ) → nat_le c 1 ≡ false → 0 < c - 1
        above_one zero e = absurd (cc)
        above_one (suc zero) e = absurd (cc)
        above_one (suc (suc c)) e = omega arith

pub none_fewer : (ns : List Resource) (counts : Counts) → HasNoZeros counts → HasNoZeros (fewer_of ns counts)
none_fewer [] counts none = none
none_fewer (n ∷ ns) counts none = none_fewer ns (one_fewer counts n) (none_one_fewer counts n none)

no_entry_zero : (others : Counts) → HasNoZeros others → list_any (λ (e : Resource × ℕ). nat_le e.1 0) (finmap.entries others) ≡ false
no_entry_zero others none = by_test (list_any (λ (e : Resource × ℕ). nat_le e.1 0) (finmap.entries others)) refl
  where
    by_test : (b : Bool) → list_any (λ (e : Resource × ℕ). nat_le e.1 0) (finmap.entries others) ≡ b → b ≡ false
    by_test true any =
        let found = some_entry_of resource_cmp resource_cmp_total resource_cmp-IsAntisymmetric (λ e. nat_le e.1 0) others any in
        let low : found.1.0 ≤ 0 = leb-true _ _ found.1.2 in
        let high : 0 < found.1.0 = none found.0 found.1.0 found.1.1 in
        absurd (omega arith)
    by_test false any = refl

none_raised : (es : List (Resource × ℕ)) (counts : Counts) → list_any (λ (e : Resource × ℕ). nat_le e.1 0) es ≡ false → HasNoZeros counts → HasNoZeros (fold (λ (c : Counts) (e : Resource × ℕ). finmap.insert c e.0 (max (count_of c e.0) e.1)) counts es)
none_raised [] counts above none = none
none_raised (e ∷ es) counts above none = by_test (nat_le e.1 0) refl above (none_raised es (finmap.insert counts e.0 (max (count_of counts e.0) e.1)))
  where
    high : (v w : ℕ) → nat_le v 0 ≡ false → 0 < max w v
    high zero w e = absurd (cc)
    high (suc v) w e = omega arith

    by_test : (b : Bool) → nat_le e.1 0 ≡ b → (b || list_any (λ (e : Resource × ℕ). nat_le e.1 0) es) ≡ false
        → (list_any (λ (e : Resource × ℕ). nat_le e.1 0) es ≡ false → HasNoZeros (finmap.insert counts e.0 (max (count_of counts e.0) e.1)) → HasNoZeros (fold (λ (c : Counts) (e : Resource × ℕ). finmap.insert c e.0 (max (count_of c e.0) e.1)) (finmap.insert counts e.0 (max (count_of counts e.0) e.1)) es))
        → HasNoZeros (fold (λ (c : Counts) (e : Resource × ℕ). finmap.insert c e.0 (max (count_of c e.0) e.1)) (finmap.insert counts e.0 (max (count_of counts e.0) e.1)) es)
    by_test true z h rest = absurd (cc)
    by_test false z h rest = rest h (none_insert counts e.0 (max (count_of counts e.0) e.1) (high e.1 (count_of counts e.0) z) none)

pub none_greater : (counts others : Counts) → HasNoZeros counts → HasNoZeros others → HasNoZeros (greater counts others)
none_greater counts others none above = none_raised (finmap.entries others) counts (no_entry_zero others above) none

-- counts that tell the same are equal
pub same_counts : (a b : Counts) → HasNoZeros a → HasNoZeros b → ((x : Resource) → count_of a x ≡ count_of b x) → a ≡ b
same_counts a b none_a none_b same = finmap.same_map resource_cmp_total resource_cmp-IsAntisymmetric a b (λ q. by_found q (finmap.get a q) (finmap.get b q) refl refl (same q))
  where
    by_found : (q : Resource) (o p : Option ℕ) → finmap.get a q ≡ o → finmap.get b q ≡ p → unwrap_or o 0 ≡ unwrap_or p 0 → o ≡ p
    by_found q None None o_is p_is e = refl
    by_found q None (Some w) o_is p_is e = let h : 0 < w = none_b q w p_is in absurd (omega arith)
    by_found q (Some v) None o_is p_is e = let h : 0 < v = none_a q v o_is in absurd (omega arith)
    by_found q (Some v) (Some w) o_is p_is e = ap Some e

pub times_parted : (x : Resource) (i : ℕ) (ns : List Resource) → times x (take i ns) + times x (drop i ns) ≡ times x ns
times_parted x zero ns = omega arith
times_parted x (suc i) [] = omega arith
times_parted x (suc i) (n ∷ ns) = by_test (eq_by_cmp resource_cmp x n) (times_parted x i ns)
  where
    by_test : (b : Bool) → times x (take i ns) + times x (drop i ns) ≡ times x ns → length (cond b (n ∷ filter (eq_by_cmp resource_cmp x) (take i ns)) (filter (eq_by_cmp resource_cmp x) (take i ns))) + times x (drop i ns) ≡ length (cond b (n ∷ filter (eq_by_cmp resource_cmp x) ns) (filter (eq_by_cmp resource_cmp x) ns))
    by_test true rest = omega arith
    by_test false rest = rest

-- what was added can be taken back
pub taken_back : (ns : List Resource) (i : ℕ) (old now : Counts) → HasNoZeros old → HasNoZeros now → more_of (drop i ns) now ≡ more_of ns old → fewer_of (take i ns) now ≡ old
taken_back ns i old now none_old none_now is = same_counts (fewer_of (take i ns) now) old (none_fewer (take i ns) now none_now) none_old (λ x.
    let laws = counts_tell x in
    let fewer : count_of (fewer_of (take i ns) now) x ≡ count_of now x - times x (take i ns) = laws.fewer (take i ns) now in
    let rest : count_of (more_of (drop i ns) now) x ≡ count_of now x + times x (drop i ns) = laws.more (drop i ns) now in
    let all : count_of (more_of ns old) x ≡ count_of old x + times x ns = laws.more ns old in
    let same : count_of (more_of (drop i ns) now) x ≡ count_of (more_of ns old) x = ap (λ c. count_of c x) is in
    let parts : times x (take i ns) + times x (drop i ns) ≡ times x ns = times_parted x i ns in
    omega arith)

pub all_taken_back : (ns : List Resource) (old : Counts) → HasNoZeros old → fewer_of ns (more_of ns old) ≡ old
all_taken_back ns old none = same_counts (fewer_of ns (more_of ns old)) old (none_fewer ns (more_of ns old) (none_more ns old none)) none (λ x.
    let laws = counts_tell x in
    let fewer : count_of (fewer_of ns (more_of ns old)) x ≡ count_of (more_of ns old) x - times x ns = laws.fewer ns (more_of ns old) in
    let more : count_of (more_of ns old) x ≡ count_of old x + times x ns = laws.more ns old in
    omega arith)
