-- Counts as a map of names keeps them.
use Rattle.std.proofs.Common.{◌≡◌, ◌≤◌, ◌<◌, ℕ, length, Bool, true, false, refl, sym, ap, subst, ◌∙◌, arith}
use Rattle.std.specs.Prelude.{cond, max, min, Option, None, unwrap_or, Result, Ok, Err, IfOk, OnOk, OnErr}
use Rattle.std.specs.Ordering.{eq_by_cmp}
use Rattle.std.specs.FinMap as finmap
use Rattle.collation.specs.Reference.{Resource}
use Rattle.lock_name.specs.Locks.{resource_cmp, Counts, count_of}
use Rattle.lock_name.specs.laws.Counting.{count_insert, count_remove, same_resource}
use Rattle.lock_name.specs.laws.Zeros.{none_empty, none_insert, none_remove}
use Rattle.lock_table.specs.Counted.{AreCounts}
use Rattle.lock_table.proofs.Moving.{RaisedOne, LoweredOne}

by_test_small : (b : Bool) (v w : ℕ) → v ≤ 65535 → w ≤ 65535 → cond b v w ≤ 65535
by_test_small true v w p q = p
by_test_small false v w p q = q

pub small_empty : AreCounts finmap.empty
small_empty = record {
  small = λ n. let e : count_of finmap.empty n ≡ 0 = ap (λ o. unwrap_or o 0) (finmap.get-empty resource_cmp n) in omega arith;
  some = none_empty;
}

pub small_insert : (counts : Counts) (n : Resource) (v : ℕ) → v ≤ 65535 → 0 < v → AreCounts counts → AreCounts (finmap.insert counts n v)
small_insert counts n v h some are = record {
  small = λ x. rw (count_insert counts n v x) (by_test_small (eq_by_cmp resource_cmp x n) v (count_of counts x) h (are.small x));
  some = none_insert counts n v some are.some;
}

pub small_remove : (counts : Counts) (n : Resource) → AreCounts counts → AreCounts (finmap.remove counts n)
small_remove counts n are = record {
  small = λ x. rw (count_remove counts n x) (by_test_small (eq_by_cmp resource_cmp x n) 0 (count_of counts x) (omega arith) (are.small x));
  some = none_remove counts n are.some;
}

-- the count that the map answers
pub counted : (was now : Counts) (q : Resource) (o : Option ℕ) → was ≡ now → o ≡ finmap.get was q → unwrap_or o 0 ≡ count_of now q
counted was now q o same is = ap (λ t. unwrap_or t 0) is ∙ ap (λ m. count_of m q) same

pub counted_small : (was : Counts) (q : Resource) (o : Option ℕ) → o ≡ finmap.get was q → AreCounts was → unwrap_or o 0 ≤ 65535
counted_small was q o is are = subst (λ t. unwrap_or t 0 ≤ 65535) (sym is) (are.small q)

pub small_along : (m n : Counts) → m ≡ n → AreCounts n → AreCounts m
small_along m n e small = subst AreCounts (sym e) small

-- a name that is put, or refused
pub put_small : {A E : Type 0} (r : Result A E) (was new : Counts) (n : Resource) (v : ℕ) → v ≤ 65535 → 0 < v → IfOk r (λ _. new ≡ finmap.insert was n v) → OnErr r (new ≡ was) → AreCounts was → AreCounts new
put_small (Ok a) was new n v h some put refused are = small_along _ _ put (small_insert was n v h some are)
put_small (Err e) was new n v h some put refused are = small_along _ _ refused are

pub put_over : {A E : Type 0} (r : Result A E) (was now new : Counts) (k n : Resource) (v : ℕ) → was ≡ now → k ≡ n → IfOk r (λ _. new ≡ finmap.insert was k v) → OnOk r (new ≡ finmap.insert now n v)
put_over (Ok a) was now new k n v same is put = put ∙ ap (λ m. finmap.insert m k v) same ∙ ap (λ q. finmap.insert now q v) is
put_over (Err e) was now new k n v same is put = tt

-- a name that is had is had so many times
pub replaced : {A E : Type 0} (r : Result A E) (was now new : Counts) (n : Resource) (v : ℕ) → was ≡ now → 0 < count_of now n → IfOk r (λ _. new ≡ finmap.insert was n v) → OnErr r (finmap.get was n ≡ None) → new ≡ finmap.insert now n v
replaced (Ok a) was now new n v same had put missed = put ∙ ap (λ m. finmap.insert m n v) same
replaced (Err e) was now new n v same had put missed = let none : count_of now n ≡ 0 = ap (λ m. count_of m n) (sym same) ∙ ap (λ o. unwrap_or o 0) missed in absurd (omega arith)

pub raised_by : (old new : Counts) (n : Resource) (count v : ℕ) → count ≡ count_of old n → count < v → new ≡ finmap.insert old n v → RaisedOne (count_of old) (count_of new) n v
raised_by old new n count v is less put x = ap (λ m. count_of m x) put ∙ count_insert old n v x ∙ ap (λ z. cond (eq_by_cmp resource_cmp x n) z (count_of old x)) higher
  where
    higher : v ≡ max (count_of old n) v
    higher = omega arith

pub raised_not : (old : Counts) (n : Resource) (count v : ℕ) → count ≡ count_of old n → v ≤ count → RaisedOne (count_of old) (count_of old) n v
raised_not old n count v is less x = by_test (eq_by_cmp resource_cmp x n) refl
  where
    by_test : (b : Bool) → eq_by_cmp resource_cmp x n ≡ b → count_of old x ≡ cond b (max (count_of old n) v) (count_of old x)
    by_test true e = let same : count_of old x ≡ count_of old n = ap (count_of old) (same_resource x n e) in omega arith
    by_test false e = refl

pub lowered_not : (old : Counts) (n : Resource) (count v : ℕ) → count ≡ count_of old n → count ≤ v → LoweredOne (count_of old) (count_of old) n v
lowered_not old n count v is less x = by_test (eq_by_cmp resource_cmp x n) refl
  where
    by_test : (b : Bool) → eq_by_cmp resource_cmp x n ≡ b → count_of old x ≡ cond b (min (count_of old n) v) (count_of old x)
    by_test true e = let same : count_of old x ≡ count_of old n = ap (count_of old) (same_resource x n e) in omega arith
    by_test false e = refl

pub lowered_by : (old new : Counts) (n : Resource) (count v : ℕ) → count ≡ count_of old n → v < count → new ≡ finmap.insert old n v → LoweredOne (count_of old) (count_of new) n v
lowered_by old new n count v is less put x = ap (λ m. count_of m x) put ∙ count_insert old n v x ∙ ap (λ z. cond (eq_by_cmp resource_cmp x n) z (count_of old x)) lower
  where
    lower : v ≡ min (count_of old n) v
    lower = omega arith

pub lowered_out : (old new : Counts) (n : Resource) (v : ℕ) → v ≡ 0 → new ≡ finmap.remove old n → LoweredOne (count_of old) (count_of new) n v
lowered_out old new n v none put x = ap (λ m. count_of m x) put ∙ count_remove old n x ∙ ap (λ z. cond (eq_by_cmp resource_cmp x n) z (count_of old x)) lower
  where
    lower : 0 ≡ min (count_of old n) v
    lower = omega arith

-- a map without entries
pub empty_counted : (was now : Counts) → was ≡ now → length (finmap.entries was) ≡ 0 → (x : Resource) → count_of now x ≡ 0
empty_counted was now same none x = ap (λ c. count_of c x) (sym same ∙ finmap.empty_of_len was (finmap.len-entries was ∙ none)) ∙ ap (λ o. unwrap_or o 0) (finmap.get-empty resource_cmp x)
