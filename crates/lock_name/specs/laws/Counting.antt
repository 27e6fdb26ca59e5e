-- Counts of resources.
use Rattle.std.proofs.Common.{◌≡◌, ◌≤◌, ℕ, ◌+◌, Bool, true, false, List, [], ◌∷◌, length, refl, sym, ap, ◌∙◌, arith}
use Rattle.std.specs.Prelude.{◌-◌, max, cond, filter, fold, nat_le, Some, None, unwrap_or}
use Rattle.std.proofs.lemmas.Bool.{leb-true}
use Rattle.std.specs.Ordering.{eq_by_cmp, bool_cmp}
use Rattle.std.specs.Cmp.{IsTotalOrder, then_total, on_total, bool_cmp_total, first_so, second_so}
use Rattle.std.specs.FinMap as finmap
use Rattle.std.specs.FinMap.{IsAntisymmetric}
use Rattle.std.specs.FinMap.Entries.{below_all, is_sorted}
use Rattle.canonic_number.specs.laws.Classes.{AreTied, both_tied}
use Rattle.collation.specs.Reference.{Resource}
use Rattle.collation.specs.Order.{ref_cmp}
use Rattle.collation.specs.laws.Order.{ref_cmp_total, ref_cmp-IsAntisymmetric, is_equal}
use Rattle.lock_name.specs.Locks.{resource_cmp, Counts, count_of, more_of, one_fewer, fewer_of, greater}
use Rattle.collation.specs.laws.Entries.{not_found_itself, true_of}
use Rattle.lock_name.specs.LockStatements.{times, CountsTell}

pub resource_cmp_total : IsTotalOrder resource_cmp
unfolding resource_cmp
resource_cmp_total = then_total (on_total (λ n. n.has_caret) bool_cmp_total) (on_total (λ n. n.reference) ref_cmp_total)

bool_cmp-IsAntisymmetric : IsAntisymmetric bool_cmp
bool_cmp-IsAntisymmetric true true e = refl
bool_cmp-IsAntisymmetric true false e = absurd (cc)
bool_cmp-IsAntisymmetric false true e = absurd (cc)
bool_cmp-IsAntisymmetric false false e = refl

pub resource_cmp-IsAntisymmetric : IsAntisymmetric resource_cmp
unfolding resource_cmp
resource_cmp-IsAntisymmetric x y e =
    let ties : AreTied (bool_cmp x.has_caret y.has_caret) (ref_cmp x.reference y.reference) = both_tied _ _ e in
    let carets : x.has_caret ≡ y.has_caret = bool_cmp-IsAntisymmetric x.has_caret y.has_caret ties.first in
    let references : x.reference ≡ y.reference = ref_cmp-IsAntisymmetric x.reference y.reference ties.second in
    λ i. record { has_caret = carets i; reference = references i }

pub same_resource : (x n : Resource) → eq_by_cmp resource_cmp x n ≡ true → x ≡ n
same_resource x n e = resource_cmp-IsAntisymmetric x n (is_equal (resource_cmp x n) e)

pub count_insert : (counts : Counts) (n : Resource) (v : ℕ) (x : Resource) → count_of (finmap.insert counts n v) x ≡ cond (eq_by_cmp resource_cmp x n) v (count_of counts x)
count_insert counts n v x = ap (λ o. unwrap_or o 0) (finmap.get-insert resource_cmp_total counts n v x) ∙ by_test (eq_by_cmp resource_cmp x n)
  where
    by_test : (b : Bool) → unwrap_or (cond b (Some v) (finmap.get counts x)) 0 ≡ cond b v (unwrap_or (finmap.get counts x) 0)
    by_test true = refl
    by_test false = refl

pub count_remove : (counts : Counts) (n x : Resource) → count_of (finmap.remove counts n) x ≡ cond (eq_by_cmp resource_cmp x n) 0 (count_of counts x)
count_remove counts n x = ap (λ o. unwrap_or o 0) (finmap.get-remove resource_cmp_total counts n x) ∙ by_test (eq_by_cmp resource_cmp x n)
  where
    by_test : (b : Bool) → unwrap_or (cond b None (finmap.get counts x)) 0 ≡ cond b 0 (unwrap_or (finmap.get counts x) 0)
    by_test true = refl
    by_test false = refl

-- ---- adding

counted_more : (x : Resource) (ns : List Resource) (counts : Counts) → count_of (more_of ns counts) x ≡ count_of counts x + times x ns
counted_more x [] counts = omega arith
counted_more x (n ∷ ns) counts =
    counted_more x ns (finmap.insert counts n (count_of counts n + 1))
    ∙ ap (λ c. c + times x ns) (count_insert counts n (count_of counts n + 1) x)
    ∙ by_test (eq_by_cmp resource_cmp x n) refl
  where
    by_test : (b : Bool) → eq_by_cmp resource_cmp x n ≡ b → cond b (count_of counts n + 1) (count_of counts x) + times x ns ≡ count_of counts x + length (cond b (n ∷ filter (eq_by_cmp resource_cmp x) ns) (filter (eq_by_cmp resource_cmp x) ns))
    by_test true e = let same : count_of counts n ≡ count_of counts x = ap (count_of counts) (sym (same_resource x n e)) in omega arith
    by_test false e = refl

-- ---- taking away

counted_one_fewer : (counts : Counts) (n x : Resource) → count_of (one_fewer counts n) x ≡ cond (eq_by_cmp resource_cmp x n) (count_of counts x - 1) (count_of counts x)
counted_one_fewer counts n x = by_few (nat_le (count_of counts n) 1) refl
  where
    gone : (b : Bool) → eq_by_cmp resource_cmp x n ≡ b → count_of counts n ≤ 1 → cond b 0 (count_of counts x) ≡ cond b (count_of counts x - 1) (count_of counts x)
    gone true e few = let same : count_of counts n ≡ count_of counts x = ap (count_of counts) (sym (same_resource x n e)) in omega arith
    gone false e few = refl

    left : (b : Bool) → eq_by_cmp resource_cmp x n ≡ b → cond b (count_of counts n - 1) (count_of counts x) ≡ cond b (count_of counts x - 1) (count_of counts x)
    left true e = ap (λ z. count_of counts z - 1) (sym (same_resource x n e))
    left false e = refl

    by_few : (few : Bool) → nat_le (count_of counts n) 1 ≡ few → count_of (cond few (finmap.remove counts n) (finmap.insert counts n (count_of counts n - 1))) x ≡ cond (eq_by_cmp resource_cmp x n) (count_of counts x - 1) (count_of counts x)
    by_few true e = count_remove counts n x ∙ gone (eq_by_cmp resource_cmp x n) refl (leb-true _ _ e)
    by_few false e = count_insert counts n (count_of counts n - 1) x ∙ left (eq_by_cmp resource_cmp x n) refl

counted_fewer : (x : Resource) (ns : List Resource) (counts : Counts) → count_of (fewer_of ns counts) x ≡ count_of counts x - times x ns
counted_fewer x [] counts = omega arith
counted_fewer x (n ∷ ns) counts =
    counted_fewer x ns (one_fewer counts n)
    ∙ ap (λ c. c - times x ns) (counted_one_fewer counts n x)
    ∙ by_test (eq_by_cmp resource_cmp x n)
  where
    by_test : (b : Bool) → cond b (count_of counts x - 1) (count_of counts x) - times x ns ≡ count_of counts x - length (cond b (n ∷ filter (eq_by_cmp resource_cmp x) ns) (filter (eq_by_cmp resource_cmp x) ns))
    by_test true = omega arith
    by_test false = refl

-- ---- comparing

abbrev raised : Counts → List (Resource × ℕ) → Counts
raised counts es = fold (λ (c : Counts) (e : Resource × ℕ). finmap.insert c e.0 (max (count_of c e.0) e.1)) counts es

counted_raised : (x : Resource) (es : List (Resource × ℕ)) (counts : Counts) → is_sorted resource_cmp es ≡ true → count_of (raised counts es) x ≡ max (count_of counts x) (unwrap_or (finmap.find resource_cmp x es) 0)
counted_raised x [] counts h = omega arith
counted_raised x (e ∷ es) counts h =
    counted_raised x es (finmap.insert counts e.0 (max (count_of counts e.0) e.1)) (second_so (below_all resource_cmp e.0 es) _ h)
    ∙ ap (λ c. max c (unwrap_or (finmap.find resource_cmp x es) 0)) (count_insert counts e.0 (max (count_of counts e.0) e.1) x)
    ∙ by_test (eq_by_cmp resource_cmp x e.0) refl
  where
    by_test : (b : Bool) → eq_by_cmp resource_cmp x e.0 ≡ b → max (cond b (max (count_of counts e.0) e.1) (count_of counts x)) (unwrap_or (finmap.find resource_cmp x es) 0) ≡ max (count_of counts x) (unwrap_or (cond b (Some e.1) (finmap.find resource_cmp x es)) 0)
    by_test true t =
        let x_is : x ≡ e.0 = same_resource x e.0 t in
        let same : count_of counts e.0 ≡ count_of counts x = ap (count_of counts) (sym x_is) in
        let none : unwrap_or (finmap.find resource_cmp x es) 0 ≡ 0 = ap (λ o. unwrap_or o 0) (ap (λ z. finmap.find resource_cmp z es) x_is ∙ not_found_itself resource_cmp resource_cmp_total resource_cmp-IsAntisymmetric e.0 es (first_so _ _ h)) in
        omega arith
    by_test false t = refl

counted_greater : (x : Resource) (counts others : Counts) → count_of (greater counts others) x ≡ max (count_of counts x) (count_of others x)
counted_greater x counts others =
    counted_raised x (finmap.entries others) counts (true_of _ (finmap.entries_sorted others))
    ∙ ap (λ o. max (count_of counts x) (unwrap_or o 0)) (sym (finmap.get-entries others x))

pub counts_tell : (n : Resource) → CountsTell n
counts_tell n = record { more = counted_more n; fewer = counted_fewer n; greatest = counted_greater n }
