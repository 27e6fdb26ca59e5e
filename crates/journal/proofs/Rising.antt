-- Changes in a list whose references rise.
use Rattle.std.proofs.Common.{◌≡◌, ℕ, ◌+◌, ◌-◌, ◌≤◌, ◌<◌, List, [], ◌∷◌, ◌++◌, length, take, drop, Bool, true, false, refl, sym, ap, subst, ◌∙◌, arith, append_assoc, append-nil, suc, zero}
use Rattle.std.specs.Prelude.{T, cond, not, Option, Some, None, slice_index_or}
use Rattle.std.specs.List.{AllWithin}
use Rattle.std.specs.List.Sorted.{IsPartitionedBy, IsPartitionPoint}
use Rattle.std.proofs.lemmas.List.{take-append-drop, length-drop, take_more, drop-drop}
use Rattle.std.proofs.Math.Seq.{take-add}
use Rattle.std.specs.declared.cmp.Ordering.{Ordering}
use Rattle.std.specs.declared.cmp.Ordering.TheVariants.{Less, Equal, Greater}
use Rattle.std.specs.Ordering.{is_lt, is_eq, eq_by_cmp, ordering_reverse}
use Rattle.std.specs.Cmp.{first_so, second_so, tied_itself}
use Rattle.std.specs.FinMap as finmap
use Rattle.std.specs.FinMap.{put, is_sorted}
use Rattle.std.specs.FinMap.Entries.{where_key, by_order, below_all, is_sorted-put, is_sorted-where_key, find-where_key, same_entries}
use Rattle.std.proofs.lemmas.List.Folds.{list_all-append}
use Rattle.std.proofs.lemmas.Bool.{and_from}
use Rattle.collation.specs.Reference.{Reference}
use Rattle.collation.specs.Database.{Database}
use Rattle.collation.specs.Order.{ref_cmp, ref_eq}
use Rattle.collation.specs.Changes.{Change, set_to, changed}
use Rattle.collation.specs.laws.Order.{ref_cmp_total, ref_cmp-IsAntisymmetric, ref_ties, is_less, is_equal}
use Rattle.collation.specs.laws.Entries.{true_of}
use Rattle.journal.specs.Merging.{Parted, parted, IsKept, AreKept, IsSet, IsPassed, IsAdded, put_to, put_all, are_before, is_first_before, is_first_at}
use Rattle.journal.proofs.Merges.{first_left}

abbrev pub Node : Type 0
Node = Reference × List ℕ

so : (b : Bool) → b ≡ true → T b
so true e = tt
so false e = absurd (cc)

-- ---- order

turned : (x y : Reference) → ref_cmp x y ≡ Less → ref_cmp y x ≡ Greater
turned x y h = ref_cmp_total.antisymm y x ∙ ap ordering_reverse h

-- what doesn't stand before another is behind it, or is it
other : (x y : Reference) → is_lt (ref_cmp x y) ≡ false → is_eq (ref_cmp x y) ≡ false → ref_cmp y x ≡ Less
other x y h n = ref_cmp_total.antisymm y x ∙ by_order_of (ref_cmp x y) h n
  where
    by_order_of : (o : Ordering) → is_lt o ≡ false → is_eq o ≡ false → ordering_reverse o ≡ Less
    by_order_of Less h n = absurd (cc)
    by_order_of Equal h n = absurd (cc)
    by_order_of Greater h n = refl

before_later : (r later : Reference) (es : List Node) → ref_cmp r later ≡ Less → are_before r es ≡ true → are_before later es ≡ true
before_later r later [] less h = refl
before_later r later (e ∷ es) less h =
    and_from _ _ (ap is_lt (ref_cmp_total.trans e.0 r later (is_less (ref_cmp e.0 r) (first_so _ _ h)) less)) (before_later r later es less (second_so (is_lt (ref_cmp e.0 r)) _ h))

before_more : (r : Reference) (es : List Node) (e : Node) → are_before r es ≡ true → is_lt (ref_cmp e.0 r) ≡ true → are_before r (es ++ e ∷ []) ≡ true
before_more r es e h less = list_all-append (λ (e : Node). is_lt (ref_cmp e.0 r)) es (e ∷ []) ∙ and_from _ _ h (and_from _ _ less refl)

pub sorted_rest : {X : Type 0} (es fs : List (Reference × X)) → is_sorted ref_cmp (es ++ fs) ≡ true → is_sorted ref_cmp fs ≡ true
sorted_rest [] fs h = h
sorted_rest (e ∷ es) fs h = sorted_rest es fs (second_so (below_all ref_cmp e.0 (es ++ fs)) _ h)

-- ---- one change

put_front : (r : Reference) (v : List ℕ) (es fs : List Node) → are_before r es ≡ true → put ref_cmp r v (es ++ fs) ≡ es ++ put ref_cmp r v fs
put_front r v [] fs h = refl
put_front r v (e ∷ es) fs h =
    ap (λ o. by_order o ((r, v) ∷ e ∷ (es ++ fs)) ((e.0, v) ∷ (es ++ fs)) (e ∷ put ref_cmp r v (es ++ fs))) (turned e.0 r (is_less (ref_cmp e.0 r) (first_so _ _ h)))
    ∙ ap (λ xs. e ∷ xs) (put_front r v es fs (second_so (is_lt (ref_cmp e.0 r)) _ h))

without_front : (r : Reference) (es fs : List Node) → are_before r es ≡ true → where_key ref_cmp (λ x. not (eq_by_cmp ref_cmp r x)) (es ++ fs) ≡ es ++ where_key ref_cmp (λ x. not (eq_by_cmp ref_cmp r x)) fs
without_front r [] fs h = refl
without_front r (e ∷ es) fs h =
    ap (λ o. cond (not (is_eq o)) (e ∷ where_key ref_cmp (λ x. not (eq_by_cmp ref_cmp r x)) (es ++ fs)) (where_key ref_cmp (λ x. not (eq_by_cmp ref_cmp r x)) (es ++ fs))) (turned e.0 r (is_less (ref_cmp e.0 r) (first_so _ _ h)))
    ∙ ap (λ xs. e ∷ xs) (without_front r es fs (second_so (is_lt (ref_cmp e.0 r)) _ h))

without_below : (r : Reference) (es : List Node) → below_all ref_cmp r es ≡ true → where_key ref_cmp (λ x. not (eq_by_cmp ref_cmp r x)) es ≡ es
without_below r [] h = refl
without_below r (e ∷ es) h =
    ap (λ o. cond (not (is_eq o)) (e ∷ where_key ref_cmp (λ x. not (eq_by_cmp ref_cmp r x)) es) (where_key ref_cmp (λ x. not (eq_by_cmp ref_cmp r x)) es)) (is_less (ref_cmp r e.0) (first_so _ _ h))
    ∙ ap (λ xs. e ∷ xs) (without_below r es (second_so (is_lt (ref_cmp r e.0)) _ h))

below_later : {X : Type 0} (r x : Reference) (es : List (Reference × X)) → ref_cmp r x ≡ Less → below_all ref_cmp x es ≡ true → below_all ref_cmp r es ≡ true
below_later r x [] less h = refl
below_later r x (e ∷ es) less h =
    and_from _ _ (ap is_lt (ref_cmp_total.trans r x e.0 less (is_less (ref_cmp x e.0) (first_so _ _ h)))) (below_later r x es less (second_so (is_lt (ref_cmp x e.0)) _ h))

-- where the first that is left is the reference's own
same_first : (r : Reference) (e : Node) (es : List Node) → is_first_at r (e ∷ es) ≡ true → e.0 ≡ r
same_first r e es at = ref_cmp-IsAntisymmetric e.0 r (is_equal (ref_cmp e.0 r) (sym (ref_ties e.0 r) ∙ at))

pub put_there : (r : Reference) (v : List ℕ) (done es : List Node) (e : Node) → are_before r done ≡ true → is_first_at r (e ∷ es) ≡ true → put_to r (Some v) (done ++ e ∷ es) ≡ done ++ (e.0, v) ∷ es
put_there r v done es e h at =
    put_front r v done (e ∷ es) h ∙ ap (λ o. done ++ by_order o ((r, v) ∷ e ∷ es) ((e.0, v) ∷ es) (e ∷ put ref_cmp r v es)) (ap (λ x. ref_cmp x e.0) (sym (same_first r e es at)) ∙ tied_itself ref_cmp_total e.0)

pub gone_there : (r : Reference) (done es : List Node) (e : Node) → are_before r done ≡ true → is_sorted ref_cmp (done ++ e ∷ es) ≡ true → is_first_at r (e ∷ es) ≡ true → put_to r None (done ++ e ∷ es) ≡ done ++ es
gone_there r done es e h rise at =
    let here : ref_cmp r e.0 ≡ Equal = ap (λ x. ref_cmp x e.0) (sym (same_first r e es at)) ∙ tied_itself ref_cmp_total e.0 in
    let below : below_all ref_cmp r es ≡ true = subst (λ x. below_all ref_cmp x es ≡ true) (same_first r e es at) (first_so _ _ (sorted_rest done (e ∷ es) rise)) in
    without_front r done (e ∷ es) h
    ∙ ap (λ o. done ++ cond (not (is_eq o)) (e ∷ where_key ref_cmp (λ x. not (eq_by_cmp ref_cmp r x)) es) (where_key ref_cmp (λ x. not (eq_by_cmp ref_cmp r x)) es)) here
    ∙ ap (λ xs. done ++ xs) (without_below r es below)

pub put_new : (r : Reference) (v : List ℕ) (done left : List Node) → are_before r done ≡ true → is_first_before r left ≡ false → is_first_at r left ≡ false → put_to r (Some v) (done ++ left) ≡ done ++ (r, v) ∷ left
put_new r v done [] h from at = put_front r v done [] h
put_new r v done (e ∷ es) h from at =
    put_front r v done (e ∷ es) h ∙ ap (λ o. done ++ by_order o ((r, v) ∷ e ∷ es) ((e.0, v) ∷ es) (e ∷ put ref_cmp r v es)) (other e.0 r from (sym (ref_ties e.0 r) ∙ at))

pub gone_already : (r : Reference) (done left : List Node) → are_before r done ≡ true → is_sorted ref_cmp (done ++ left) ≡ true → is_first_before r left ≡ false → is_first_at r left ≡ false → put_to r None (done ++ left) ≡ done ++ left
gone_already r done [] h rise from at = without_front r done [] h
gone_already r done (e ∷ es) h rise from at =
    let less : ref_cmp r e.0 ≡ Less = other e.0 r from (sym (ref_ties e.0 r) ∙ at) in
    let rest = sorted_rest done (e ∷ es) rise in
    let below : below_all ref_cmp r (e ∷ es) ≡ true = and_from _ _ (ap is_lt less) (below_later r e.0 es less (first_so _ _ rest)) in
    without_front r done (e ∷ es) h ∙ ap (λ xs. done ++ xs) (without_below r (e ∷ es) below)

-- ---- the steps

-- one more is kept
pub keeps_none : (p : Parted) → AreKept 0 p p
keeps_none p = (refl, (sym (append-nil p.done), refl))

pub keeps_more : (n : ℕ) (p q r : Parted) → n < length p.left → AreKept n p q → IsKept q r → AreKept (n + 1) p r
keeps_more n p q r l kept more = by_left (drop n p.left) refl
  where
    by_left : (es : List Node) → drop n p.left ≡ es → AreKept (n + 1) p r
    by_left [] is = let z : length p.left - n ≡ 0 = sym (length-drop n p.left) ∙ ap length is in absurd (omega arith)
    by_left (e ∷ es) is =
        let f = first_left p.left n e es is in
        let k = more.1 e es (kept.1.1 ∙ is) in (
          more.0 ∙ kept.0,
          (
            k.0 ∙ ap (λ xs. xs ++ e ∷ []) kept.1.0 ∙ append_assoc p.done (take n p.left) (e ∷ [])
                ∙ ap (λ xs. p.done ++ xs) (ap (λ x. take n p.left ++ x ∷ []) (sym (f.1.0 e)) ∙ sym (take_more p.left n e l)),
            k.1 ∙ sym f.1.1,
          ),
        )

-- as they stand
pub keeps_in_place : (ns q : List Node) (old : Parted) (n done next room more_done more_next : ℕ) → parted ns q done next room ≡ old → done ≡ next → q ≡ [] → more_done ≡ done + n → more_next ≡ next + n → AreKept n old (parted ns q more_done more_next room)
keeps_in_place ns q old n done next room more_done more_next is here none d m = subst (λ (o : Parted). AreKept n o (parted ns q more_done more_next room)) is (
  refl,
  (
    ap (λ xs. take more_done ns ++ xs) none ∙ append-nil (take more_done ns) ∙ ap (λ k. take k ns) d ∙ take-add done n ns
        ∙ ap (λ k. take done ns ++ take n (drop k ns)) here ∙ ap (λ xs. xs ++ take n (drop next ns)) (sym (append-nil (take done ns)) ∙ ap (λ xs. take done ns ++ xs) (sym none)),
    ap (λ k. drop k ns) m ∙ sym (drop-drop n next ns),
  ),
)

-- what is left from a partition point on doesn't stand before the reference
parted_first : (r : Reference) (es : List Node) (x : Reference) (j : ℕ) (d : Node) → below_all ref_cmp x es ≡ true → j < length es → is_lt (ref_cmp (slice_index_or es j d).0 r) ≡ true → is_lt (ref_cmp x r) ≡ true
parted_first r [] x j d h l is = absurd (omega arith)
parted_first r (e ∷ es) x zero d h l is = ap is_lt (ref_cmp_total.trans x e.0 r (is_less (ref_cmp x e.0) (first_so _ _ h)) (is_less (ref_cmp e.0 r) is))
parted_first r (e ∷ es) x (suc j) d h l is = parted_first r es x j d (second_so (is_lt (ref_cmp x e.0)) _ h) (omega arith) is

pub parted_by : (r : Reference) (es : List Node) → is_sorted ref_cmp es ≡ true → IsPartitionedBy (λ (e : Node). is_lt (ref_cmp e.0 r)) es
parted_by r [] h i j d le l is = absurd (omega arith)
parted_by r (e ∷ es) h zero zero d le l is = is
parted_by r (e ∷ es) h zero (suc j) d le l is = parted_first r es e.0 j d (first_so (below_all ref_cmp e.0 es) _ h) (omega arith) is
parted_by r (e ∷ es) h (suc i) zero d le l is = absurd (omega arith)
parted_by r (e ∷ es) h (suc i) (suc j) d le l is = parted_by r es (second_so (below_all ref_cmp e.0 es) _ h) i j d (omega arith) (omega arith) is

before_point : (r : Reference) (es : List Node) (n : ℕ) → n ≤ length es → AllWithin (λ (e : Node). is_lt (ref_cmp e.0 r) ≡ true) es 0 n → are_before r (take n es) ≡ true
before_point r es zero le h = refl
before_point r [] (suc n) le h = absurd (omega arith)
before_point r (e ∷ es) (suc n) le h = and_from _ _ (h zero e (omega arith) (omega arith)) (before_point r es n (omega arith) (λ k d low high. h (suc k) d (omega arith) (omega arith)))

from_point : (r : Reference) (es : List Node) (n : ℕ) → AllWithin (λ (e : Node). is_lt (ref_cmp e.0 r) ≡ false) es n (length es) → is_first_before r (drop n es) ≡ false
from_point r [] zero h = refl
from_point r (e ∷ es) zero h = h zero e (omega arith) (omega arith)
from_point r [] (suc n) h = refl
from_point r (e ∷ es) (suc n) h = from_point r es n (λ k d low high. h (suc k) d (omega arith) (omega arith))

-- where what is left is cut in two
pub record PartedAt (r : Reference) (left : List Node) (n : ℕ) : Type 0 where
  pub within : n ≤ length left
  pub before : are_before r (take n left) ≡ true
  pub from : is_first_before r (drop n left) ≡ false

pub parted_at : (r : Reference) (es left : List Node) (n : ℕ) → es ≡ left → n ≤ length es → IsPartitionPoint (λ (e : Node). is_lt (ref_cmp e.0 r) ≡ true) (λ (e : Node). is_lt (ref_cmp e.0 r) ≡ false) es n → PartedAt r left n
parted_at r es left n same le point = subst (λ xs. PartedAt r xs n) same (record { within = le; before = before_point r es n le point.0; from = from_point r es n point.1 })

-- those that are kept before the reference
pub kept_before : (r : Reference) (n : ℕ) (p q : Parted) → AreKept n p q → are_before r (take n p.left) ≡ true → are_before r p.done ≡ true → are_before r q.done ≡ true
kept_before r n p q kept front h = ap (are_before r) kept.1.0 ∙ list_all-append (λ (e : Node). is_lt (ref_cmp e.0 r)) p.done (take n p.left) ∙ and_from _ _ h front

pub kept_all : (n : ℕ) (p q : Parted) → AreKept n p q → q.done ++ q.left ≡ p.done ++ p.left
kept_all n p q kept = ap (λ xs. xs ++ q.left) kept.1.0 ∙ ap (λ xs. (p.done ++ take n p.left) ++ xs) kept.1.1 ∙ append_assoc p.done (take n p.left) (drop n p.left) ∙ ap (λ xs. p.done ++ xs) (take-append-drop n p.left)

-- a change is made: old is the list before, p once all before the reference is kept
pub record Made (r : Reference) (value : Option (List ℕ)) (old q : Parted) : Type 0 where
  pub made : q.done ++ q.left ≡ put_to r value (old.done ++ old.left)
  pub behind : (later : Reference) → ref_cmp r later ≡ Less → are_before later q.done ≡ true
  pub room : old.room ≤ q.room + 1

-- what is kept before the reference
pub record Ready (r : Reference) (old p : Parted) : Type 0 where
  pub all : p.done ++ p.left ≡ old.done ++ old.left
  pub before : are_before r p.done ≡ true
  pub from : is_first_before r p.left ≡ false
  pub room : p.room ≡ old.room
  pub sorted : is_sorted ref_cmp (old.done ++ old.left) ≡ true

sorted_now : (r : Reference) (old p : Parted) → Ready r old p → is_sorted ref_cmp (p.done ++ p.left) ≡ true
sorted_now r old p ready = ap (is_sorted ref_cmp) ready.all ∙ ready.sorted

at_first : {A : Type 0} (r : Reference) (left : List Node) → is_first_at r left ≡ true → ((e : Node) (es : List Node) → left ≡ e ∷ es → is_first_at r (e ∷ es) ≡ true → A) → A
at_first r [] at f = absurd (cc)
at_first r (e ∷ es) at f = f e es refl at

pub set_made : (r : Reference) (v : List ℕ) (old p q : Parted) → Ready r old p → is_first_at r p.left ≡ true → IsSet v p q → Made r (Some v) old q
set_made r v old p q ready at set = at_first r p.left at (λ e es is here.
    let k = set.1 e es is in
    let le : e.0 ≡ r = same_first r e es here in
    record {
      made = ap (λ xs. xs ++ q.left) k.0 ∙ ap (λ xs. (p.done ++ (e.0, v) ∷ []) ++ xs) k.1 ∙ append_assoc p.done ((e.0, v) ∷ []) es ∙ sym (put_there r v p.done es e ready.before here) ∙ ap (λ xs. put_to r (Some v) (p.done ++ xs)) (sym is) ∙ ap (put_to r (Some v)) ready.all;
      behind = λ later less. ap (are_before later) k.0 ∙ before_more later p.done (e.0, v) (before_later r later p.done less ready.before) (ap is_lt (ap (λ x. ref_cmp x later) le ∙ less));
      room = omega (arith, set.0, ready.room);
    })

pub pass_made : (r : Reference) (old p q : Parted) → Ready r old p → is_first_at r p.left ≡ true → IsPassed p q → Made r None old q
pass_made r old p q ready at passed = at_first r p.left at (λ e es is here.
    record {
      made = ap (λ xs. xs ++ q.left) passed.1.0 ∙ ap (λ xs. p.done ++ xs) (passed.1.1 e es is) ∙ sym (gone_there r p.done es e ready.before (ap (λ xs. is_sorted ref_cmp (p.done ++ xs)) (sym is) ∙ sorted_now r old p ready) here) ∙ ap (λ xs. put_to r None (p.done ++ xs)) (sym is) ∙ ap (put_to r None) ready.all;
      behind = λ later less. ap (are_before later) passed.1.0 ∙ before_later r later p.done less ready.before;
      room = omega (arith, passed.0, ready.room);
    })

pub add_made : (r : Reference) (v : List ℕ) (old p q : Parted) → Ready r old p → is_first_at r p.left ≡ false → IsAdded (r, v) p q → Made r (Some v) old q
add_made r v old p q ready at added = record {
  made = ap (λ xs. xs ++ q.left) added.1.0 ∙ ap (λ xs. (p.done ++ (r, v) ∷ []) ++ xs) added.1.1 ∙ append_assoc p.done ((r, v) ∷ []) p.left ∙ sym (put_new r v p.done p.left ready.before ready.from at) ∙ ap (put_to r (Some v)) ready.all;
  behind = λ later less. ap (are_before later) added.1.0 ∙ before_more later p.done (r, v) (before_later r later p.done less ready.before) (ap is_lt less);
  room = omega (arith, added.0, ready.room);
}

pub none_made : (r : Reference) (old p : Parted) → Ready r old p → is_first_at r p.left ≡ false → Made r None old p
none_made r old p ready at = record {
  made = sym (gone_already r p.done p.left ready.before (sorted_now r old p ready) ready.from at) ∙ ap (put_to r None) ready.all;
  behind = λ later less. before_later r later p.done less ready.before;
  room = omega (arith, ready.room);
}

-- ---- all changes

-- the changes that are left can be made, and lead to where all lead
pub record Making (p : Parted) (cs all : List Change) (first : List Node) : Type 0 where
  pub leads : put_all cs (p.done ++ p.left) ≡ put_all all first
  pub sorted : is_sorted ref_cmp (p.done ++ p.left) ≡ true
  pub rising : is_sorted ref_cmp cs ≡ true
  pub behind : (c : Change) (rest : List Change) → cs ≡ c ∷ rest → are_before c.0 p.done ≡ true
  pub room : length cs ≤ p.room

pub sorted_put : (r : Reference) (v : Option (List ℕ)) (es : List Node) → is_sorted ref_cmp es ≡ true → is_sorted ref_cmp (put_to r v es) ≡ true
sorted_put r (Some v) es h = true_of _ (is_sorted-put ref_cmp ref_cmp_total r v es (so _ h))
sorted_put r None es h = true_of _ (is_sorted-where_key ref_cmp (λ x. not (eq_by_cmp ref_cmp r x)) es (so _ h))

pub making_on : (p q : Parted) (cs rest all : List Change) (first : List Node) (c : Change) → cs ≡ c ∷ rest → Making p cs all first → Made c.0 c.1 p q → Making q rest all first
making_on p q cs rest all first c is h m =
    let rise : is_sorted ref_cmp (c ∷ rest) ≡ true = ap (is_sorted ref_cmp) (sym is) ∙ h.rising in
    let l : length cs ≡ suc (length rest) = ap length is in
    record {
      leads = ap (put_all rest) m.made ∙ ap (λ xs. put_all xs (p.done ++ p.left)) (sym is) ∙ h.leads;
      sorted = ap (is_sorted ref_cmp) m.made ∙ sorted_put c.0 c.1 (p.done ++ p.left) h.sorted;
      rising = second_so (below_all ref_cmp c.0 rest) _ rise;
      behind = λ d more e. m.behind d.0 (is_less (ref_cmp c.0 d.0) (first_so _ _ (subst (λ xs. below_all ref_cmp c.0 xs ≡ true) e (first_so _ _ rise))));
      room = omega (arith, h.room, m.room, l);
    }

-- ---- the database

put_entries : (r : Reference) (v : Option (List ℕ)) (m : Database) → put_to r v (finmap.entries m) ≡ finmap.entries (set_to r v m)
put_entries r (Some v) m = sym (finmap.entries-insert ref_cmp_total m r v)
put_entries r None m =
    same_entries ref_cmp ref_cmp_total ref_cmp-IsAntisymmetric (where_key ref_cmp (λ x. not (eq_by_cmp ref_cmp r x)) (finmap.entries m)) (finmap.entries (finmap.remove m r)) (is_sorted-where_key ref_cmp (λ x. not (eq_by_cmp ref_cmp r x)) (finmap.entries m) (finmap.entries_sorted m)) (finmap.entries_sorted (finmap.remove m r))
    (λ q. find-where_key ref_cmp (λ x. not (eq_by_cmp ref_cmp r x)) q (λ x t. ap (λ o. not (is_eq o)) (ap (ref_cmp r) (sym (ref_cmp-IsAntisymmetric q x t)))) (finmap.entries m)
    ∙ by_test (eq_by_cmp ref_cmp r q) (eq_by_cmp ref_cmp q r) ((sym (ref_ties r q)) ∙ both_same r q ∙ ref_ties q r) (finmap.find ref_cmp q (finmap.entries m))
    ∙ ap (cond (eq_by_cmp ref_cmp q r) None) (sym (finmap.get-entries m q)) ∙ sym (finmap.get-remove ref_cmp_total m r q) ∙ finmap.get-entries (finmap.remove m r) q)
  where
    both_same : (x y : Reference) → ref_eq x y ≡ ref_eq y x
    both_same x y = ref_ties x y ∙ ap is_eq (ref_cmp_total.antisymm x y) ∙ reversed (ref_cmp y x) ∙ sym (ref_ties y x)
      where
        reversed : (o : Ordering) → is_eq (ordering_reverse o) ≡ is_eq o
        reversed Less = refl
        reversed Equal = refl
        reversed Greater = refl

    by_test : (a b : Bool) → a ≡ b → (o : Option (List ℕ)) → cond (not a) o None ≡ cond b None o
    by_test true true e o = refl
    by_test false false e o = refl
    by_test true false e o = absurd (cc)
    by_test false true e o = absurd (cc)

-- the changes in the list of a database's entries are those in the database
pub put_all_entries : (cs : List Change) (m : Database) → put_all cs (finmap.entries m) ≡ finmap.entries (changed cs m)
put_all_entries [] m = refl
put_all_entries (c ∷ cs) m = ap (put_all cs) (put_entries c.0 c.1 m) ∙ put_all_entries cs (set_to c.0 c.1 m)
