-- Counts less others, and lists of names that counts have or haven't.
use Rattle.std.proofs.Common.{zero, suc, ◌≡◌, ◌≤◌, ◌<◌, ◌+◌, ℕ, List, [], ◌∷◌, ◌++◌, length, Bool, true, false, refl, sym, ap, ◌∙◌, arith}
use Rattle.std.specs.Prelude.{◌-◌, cond, filter, min, Some, unwrap_or}
use Rattle.std.specs.Ordering.{eq_by_cmp}
use Rattle.std.specs.FinMap as finmap
use Rattle.collation.specs.Reference.{Resource}
use Rattle.lock_name.specs.Locks.{resource_cmp, Counts, count_of, one_fewer, HasNoZeros}
use Rattle.lock_name.specs.LockStatements.{times}
use Rattle.lock_name.specs.laws.Counting.{count_insert, count_remove, counts_tell, same_resource}
use Rattle.lock_name.specs.laws.Zeros.{none_insert, none_remove, same_counts}
use Rattle.lock_table.specs.Counted.{AreRaised, is_listed, put_count, taken_from, less}
use Rattle.lock_table.proofs.Lists.{unnamed_times}

pub no_count : (x : Resource) → count_of finmap.empty x ≡ 0
no_count x = ap (λ o. unwrap_or o 0) (finmap.get-empty resource_cmp x)

pub none_above : (none held : Counts) → none ≡ finmap.empty → (x : Resource) → count_of none x ≤ count_of held x
none_above none held is x = let z : count_of none x ≡ 0 = ap (λ c. count_of c x) is ∙ no_count x in omega arith

counted_put : (counts : Counts) (n : Resource) (v : ℕ) (x : Resource) → count_of (put_count counts n v) x ≡ cond (eq_by_cmp resource_cmp x n) v (count_of counts x)
counted_put counts n zero x = count_remove counts n x
counted_put counts n (suc v) x = count_insert counts n (suc v) x

counted_from : (x : Resource) (es : List (Resource × ℕ)) (counts : Counts) → count_of (taken_from counts es) x ≡ count_of counts x - unwrap_or (finmap.find resource_cmp x es) 0
counted_from x [] counts = omega arith
counted_from x (e ∷ es) counts = counted_put (taken_from counts es) e.0 (count_of counts e.0 - e.1) x ∙ by_test (eq_by_cmp resource_cmp x e.0) refl (counted_from x es counts)
  where
    by_test : (b : Bool) → eq_by_cmp resource_cmp x e.0 ≡ b → count_of (taken_from counts es) x ≡ count_of counts x - unwrap_or (finmap.find resource_cmp x es) 0
        → cond b (count_of counts e.0 - e.1) (count_of (taken_from counts es) x) ≡ count_of counts x - unwrap_or (cond b (Some e.1) (finmap.find resource_cmp x es)) 0
    by_test true t rest = ap (λ z. count_of counts z - e.1) (sym (same_resource x e.0 t))
    by_test false t rest = rest

pub counted_less : (counts others : Counts) (x : Resource) → count_of (less counts others) x ≡ count_of counts x - count_of others x
counted_less counts others x = counted_from x (finmap.entries others) counts ∙ ap (λ o. count_of counts x - unwrap_or o 0) (sym (finmap.get-entries others x))

pub surplus_is : (counts others : Counts) (x : Resource) (a b r : ℕ) → a ≡ count_of counts x → b ≡ count_of others x → r ≡ a - b → r ≡ count_of (less counts others) x
surplus_is counts others x a b r a_is b_is r_is = r_is ∙ ap (λ z. z - b) a_is ∙ ap (λ z. count_of counts x - z) b_is ∙ sym (counted_less counts others x)

none_put : (counts : Counts) (n : Resource) (v : ℕ) → HasNoZeros counts → HasNoZeros (put_count counts n v)
none_put counts n zero none = none_remove counts n none
none_put counts n (suc v) none = none_insert counts n (suc v) (omega arith) none

none_from : (es : List (Resource × ℕ)) (counts : Counts) → HasNoZeros counts → HasNoZeros (taken_from counts es)
none_from [] counts none = none
none_from (e ∷ es) counts none = none_put (taken_from counts es) e.0 (count_of counts e.0 - e.1) (none_from es counts none)

pub none_less : (counts others : Counts) → HasNoZeros counts → HasNoZeros (less counts others)
none_less counts others none = none_from (finmap.entries others) counts none

pub is_less : (old new others : Counts) → HasNoZeros old → HasNoZeros new → ((x : Resource) → count_of new x ≡ count_of old x - count_of others x) → new ≡ less old others
is_less old new others none_old none_new is = same_counts new (less old others) none_new (none_less old others none_old) (λ x. is x ∙ sym (counted_less old others x))

-- ---- lists

pub times_added : (x n : Resource) (ks : List Resource) → times x (ks ++ n ∷ []) ≡ times x ks + length (cond (eq_by_cmp resource_cmp x n) (n ∷ []) [])
times_added x n [] = omega arith
times_added x n (k ∷ ks) = by_test (eq_by_cmp resource_cmp x k) (times_added x n ks)
  where
    by_test : (b : Bool) → times x (ks ++ n ∷ []) ≡ times x ks + length (cond (eq_by_cmp resource_cmp x n) (n ∷ []) []) → length (cond b (k ∷ filter (eq_by_cmp resource_cmp x) (ks ++ n ∷ [])) (filter (eq_by_cmp resource_cmp x) (ks ++ n ∷ []))) ≡ length (cond b (k ∷ filter (eq_by_cmp resource_cmp x) ks) (filter (eq_by_cmp resource_cmp x) ks)) + length (cond (eq_by_cmp resource_cmp x n) (n ∷ []) [])
    by_test true rest = omega arith
    by_test false rest = rest

abbrev once : Bool → Resource → ℕ
once b n = length (cond b (n ∷ []) [])

one_taken : (x n : Resource) (left left2 : Counts) → left2 ≡ one_fewer left n → count_of left2 x ≡ count_of left x - once (eq_by_cmp resource_cmp x n) n
one_taken x n left left2 is = let laws = counts_tell x in ap (λ c. count_of c x) is ∙ laws.fewer (n ∷ []) left

pub beyond_taken : (ks : List Resource) (left left2 : Counts) (n : Resource) (count : ℕ) → count ≡ count_of left n → 0 < count → left2 ≡ one_fewer left n → (x : Resource) (k : ℕ) → times x ks + (k - count_of left2 x) ≡ times x ks + (cond (eq_by_cmp resource_cmp x n) (suc k) k - count_of left x)
beyond_taken ks left left2 n count count_is h is x k = by_test (eq_by_cmp resource_cmp x n) refl (one_taken x n left left2 is)
  where
    by_test : (b : Bool) → eq_by_cmp resource_cmp x n ≡ b → count_of left2 x ≡ count_of left x - once b n → times x ks + (k - count_of left2 x) ≡ times x ks + (cond b (suc k) k - count_of left x)
    by_test true e taken = let same : count_of left x ≡ count_of left n = ap (count_of left) (same_resource x n e) in omega arith
    by_test false e taken = omega arith

pub beyond_kept : (ks ks2 : List Resource) (left : Counts) (n : Resource) (count : ℕ) → count ≡ count_of left n → count ≤ 0 → ks2 ≡ ks ++ n ∷ [] → (x : Resource) (k : ℕ) → times x ks2 + (k - count_of left x) ≡ times x ks + (cond (eq_by_cmp resource_cmp x n) (suc k) k - count_of left x)
beyond_kept ks ks2 left n count count_is h is x k = by_test (eq_by_cmp resource_cmp x n) refl (ap (times x) is ∙ times_added x n ks)
  where
    by_test : (b : Bool) → eq_by_cmp resource_cmp x n ≡ b → times x ks2 ≡ times x ks + once b n → times x ks2 + (k - count_of left x) ≡ times x ks + (cond b (suc k) k - count_of left x)
    by_test true e added = let same : count_of left x ≡ count_of left n = ap (count_of left) (same_resource x n e) in omega arith
    by_test false e added = omega arith

pub within_passed : (ks : List Resource) (left : Counts) (n : Resource) (count : ℕ) → count ≡ count_of left n → count ≡ 0 → (x : Resource) (k : ℕ) → times x ks + min k (count_of left x) ≡ times x ks + min (cond (eq_by_cmp resource_cmp x n) (suc k) k) (count_of left x)
within_passed ks left n count count_is h x k = by_test (eq_by_cmp resource_cmp x n) refl
  where
    by_test : (b : Bool) → eq_by_cmp resource_cmp x n ≡ b → times x ks + min k (count_of left x) ≡ times x ks + min (cond b (suc k) k) (count_of left x)
    by_test true e = let same : count_of left x ≡ count_of left n = ap (count_of left) (same_resource x n e) in omega arith
    by_test false e = refl

above : (n : ℕ) → (n ≡ 0 → ⊥) → 0 < n
above zero h = absurd (h refl)
above (suc n) h = omega arith

pub within_kept : (ks ks2 : List Resource) (left left2 : Counts) (n : Resource) (count : ℕ) → count ≡ count_of left n → (count ≡ 0 → ⊥) → left2 ≡ one_fewer left n → ks2 ≡ ks ++ n ∷ [] → (x : Resource) (k : ℕ) → times x ks2 + min k (count_of left2 x) ≡ times x ks + min (cond (eq_by_cmp resource_cmp x n) (suc k) k) (count_of left x)
within_kept ks ks2 left left2 n count count_is some is added_is x k = by_test (eq_by_cmp resource_cmp x n) refl (one_taken x n left left2 is) (ap (times x) added_is ∙ times_added x n ks)
  where
    by_test : (b : Bool) → eq_by_cmp resource_cmp x n ≡ b → count_of left2 x ≡ count_of left x - once b n → times x ks2 ≡ times x ks + once b n → times x ks2 + min k (count_of left2 x) ≡ times x ks + min (cond b (suc k) k) (count_of left x)
    by_test true e taken added = let same : count_of left x ≡ count_of left n = ap (count_of left) (same_resource x n e) in let h : 0 < count = above count some in omega arith
    by_test false e taken added = omega arith

-- counts of the names in a list, gathered
pub gathered : (none left others : Counts) (ns : List Resource) → none ≡ finmap.empty → AreRaised (count_of none) (count_of left) (count_of others) → ((x : Resource) → is_listed x ns ≡ true → count_of others x ≤ count_of left x) → (x : Resource) → is_listed x ns ≡ true → count_of left x ≡ count_of others x
gathered none left others ns is raised named x h =
    let zero_is : count_of none x ≡ 0 = ap (λ c. count_of c x) is ∙ no_count x in
    let most : count_of left x ≤ _ = raised.most x in
    let least = named x h in
    omega arith

by_named : (x : Resource) (ns : List Resource) (P : Type 0) → (is_listed x ns ≡ true → P) → (times x ns ≡ 0 → P) → P
by_named x ns P there out = by_test (is_listed x ns) refl
  where
    by_test : (b : Bool) → is_listed x ns ≡ b → P
    by_test true e = there e
    by_test false e = out (unnamed_times x ns e)

pub raised_list : (left : Counts) (spare : Resource → ℕ) (ns over : List Resource) → ((x : Resource) → is_listed x ns ≡ true → count_of left x ≡ spare x) → ((x : Resource) → times x over ≡ times x ns - count_of left x) → (x : Resource) → times x over ≡ times x ns - spare x
raised_list left spare ns over same is x = by_named x ns _ (λ e. is x ∙ ap (λ c. times x ns - c) (same x e)) (λ none. let t = is x in omega arith)

pub lowered_list : (left others : Counts) (ns gone : List Resource) → ((x : Resource) → is_listed x ns ≡ true → count_of left x ≡ count_of others x) → ((x : Resource) → times x gone ≡ min (times x ns) (count_of left x)) → (x : Resource) → times x gone ≡ min (times x ns) (count_of others x)
lowered_list left others ns gone same is x = by_named x ns _ (λ e. is x ∙ ap (λ c. min (times x ns) c) (same x e)) (λ none. let t = is x in omega arith)
