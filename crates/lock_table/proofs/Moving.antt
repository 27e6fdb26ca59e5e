-- Counts are raised or lowered, name by name.
use Rattle.std.proofs.Common.{zero, suc, ◌≡◌, ◌<◌, ◌≤◌, ◌+◌, ℕ, List, [], ◌∷◌, length, take, drop, Bool, true, false, refl, sym, ap, subst, ◌∙◌, ◌⊎◌, inl, inr, arith}
use Rattle.std.specs.Prelude.{cond, filter, ◌||◌, ◌-◌, max, min, Some, None, unwrap_or}
use Rattle.std.specs.List.{list_any}
use Rattle.std.specs.Ordering.{is_eq, eq_by_cmp}
use Rattle.std.specs.Cmp.{tied_itself, first_so, second_so}
use Rattle.std.specs.FinMap as finmap
use Rattle.std.specs.FinMap.{is_sorted, find}
use Rattle.std.specs.FinMap.Entries.{below_all}
use Rattle.std.proofs.Math.Seq.{drop-cons}
use Rattle.std.proofs.Math.ListN.{get_or}
use Rattle.collation.specs.Reference.{Resource}
use Rattle.collation.specs.laws.Entries.{true_of, not_found_itself, entry_of}
use Rattle.lock_name.specs.Locks.{resource_cmp, Counts, count_of}
use Rattle.lock_name.specs.LockStatements.{times}
use Rattle.lock_name.specs.laws.Counting.{resource_cmp_total, resource_cmp-IsAntisymmetric, same_resource}
use Rattle.lock_name.specs.laws.Zeros.{times_parted}
use Rattle.lock_trie.specs.laws.Conflicts.{entry_counted, AreThere}
use Rattle.lock_table.specs.Counted.{AreRaised, AreLowered, is_listed}
use Rattle.lock_table.proofs.Lists.{once_itself}

abbrev pub is_key : Resource → Resource × ℕ → Bool
is_key x e = eq_by_cmp resource_cmp x e.0

-- what is counted stands among the entries
key_among : (m : Counts) (x : Resource) → 0 < count_of m x → list_any (is_key x) (finmap.entries m) ≡ true
key_among m x h =
    let counted = entry_counted m x h in
    entry_of resource_cmp resource_cmp_total resource_cmp-IsAntisymmetric (is_key x) m x counted.0 counted.1 (ap is_eq (tied_itself resource_cmp_total x))

all_in : (m : Counts) (es : List (Resource × ℕ)) → is_sorted resource_cmp es ≡ true → ((q : Resource) (v : ℕ) → find resource_cmp q es ≡ Some v → finmap.get m q ≡ Some v) → AreThere m es
all_in m [] h there = tt
all_in m (e ∷ es) h there = (
  there e.0 e.1 (ap (λ r. cond (is_eq r) (Some e.1) (find resource_cmp e.0 es)) (tied_itself resource_cmp_total e.0)),
  all_in m es (second_so (below_all resource_cmp e.0 es) _ h) (λ q v is. there q v (behind q v (eq_by_cmp resource_cmp q e.0) refl is)),
)
  where
    behind : (q : Resource) (v : ℕ) (b : Bool) → eq_by_cmp resource_cmp q e.0 ≡ b → find resource_cmp q es ≡ Some v → cond b (Some e.1) (find resource_cmp q es) ≡ Some v
    behind q v true t is =
        let none : None ≡ Some v = sym (not_found_itself resource_cmp resource_cmp_total resource_cmp-IsAntisymmetric e.0 es (first_so _ _ h)) ∙ ap (λ z. find resource_cmp z es) (sym (same_resource q e.0 t)) ∙ is in
        absurd (cc)
    behind q v false t is = is

-- each entry is what the counts have
pub entries_there : (m : Counts) → AreThere m (finmap.entries m)
entries_there m = all_in m (finmap.entries m) (true_of _ (finmap.entries_sorted m)) (λ q v is. finmap.get-entries m q ∙ is)

abbrev pub RaisedOne : (Resource → ℕ) → (Resource → ℕ) → Resource → ℕ → Type 0
RaisedOne now next n v = (x : Resource) → next x ≡ cond (eq_by_cmp resource_cmp x n) (max (now n) v) (now x)

abbrev pub LoweredOne : (Resource → ℕ) → (Resource → ℕ) → Resource → ℕ → Type 0
LoweredOne now next n v = (x : Resource) → next x ≡ cond (eq_by_cmp resource_cmp x n) (min (now n) v) (now x)

-- ---- up

pub raised_first : (old others : Resource → ℕ) → AreRaised old old others
raised_first old others = record { above = λ x. omega arith; most = λ x. omega arith }

pub raised_next : (old now next others : Resource → ℕ) (n : Resource) (v : ℕ) → v ≡ others n → RaisedOne now next n v → AreRaised old now others → AreRaised old next others
raised_next old now next others n v is one raised = record {
  above = λ x. by_above x (eq_by_cmp resource_cmp x n) refl;
  most = λ x. by_most x (eq_by_cmp resource_cmp x n) refl;
}
  where
    to : (x : Resource) (b : Bool) → eq_by_cmp resource_cmp x n ≡ b → next x ≡ cond b (max (now n) v) (now x)
    to x b t = one x ∙ ap (λ z. cond z (max (now n) v) (now x)) t

    by_above : (x : Resource) (b : Bool) → eq_by_cmp resource_cmp x n ≡ b → old x ≤ next x
    by_above x true t =
        let next_is = to x true t in
        let same : now n ≡ now x = ap now (sym (same_resource x n t)) in
        let was = raised.above x in omega arith
    by_above x false t = let next_is = to x false t in let was = raised.above x in omega arith

    by_most : (x : Resource) (b : Bool) → eq_by_cmp resource_cmp x n ≡ b → next x ≤ max (old x) (others x)
    by_most x true t =
        let next_is = to x true t in
        let same : now n ≡ now x = ap now (sym (same_resource x n t)) in
        let also : others n ≡ others x = ap others (sym (same_resource x n t)) in
        let was = raised.most x in omega arith
    by_most x false t = let next_is = to x false t in let was = raised.most x in omega arith

reached_next : (now next others : Resource → ℕ) (n : Resource) (v : ℕ) → v ≡ others n → RaisedOne now next n v → (x : Resource) (later : Bool) → (others x ≤ now x) ⊎ ((eq_by_cmp resource_cmp x n || later) ≡ true) → (others x ≤ next x) ⊎ (later ≡ true)
reached_next now next others n v is one x later was = by_test (eq_by_cmp resource_cmp x n) refl was
  where
    to : (b : Bool) → eq_by_cmp resource_cmp x n ≡ b → next x ≡ cond b (max (now n) v) (now x)
    to b t = one x ∙ ap (λ z. cond z (max (now n) v) (now x)) t

    by_test : (b : Bool) → eq_by_cmp resource_cmp x n ≡ b → (others x ≤ now x) ⊎ ((b || later) ≡ true) → (others x ≤ next x) ⊎ (later ≡ true)
    by_test true t was =
        let next_is = to true t in
        let also : others n ≡ others x = ap others (sym (same_resource x n t)) in
        inl (omega arith)
    by_test false t (inl high) = let next_is = to false t in inl (omega arith)
    by_test false t (inr any) = inr any

-- ---- down

pub lowered_first : (old target : Resource → ℕ) → AreLowered old old target
lowered_first old target = record { below = λ x. omega arith; least = λ x. omega arith }

pub lowered_next : (old now next target : Resource → ℕ) (n : Resource) (v : ℕ) → v ≡ target n → LoweredOne now next n v → AreLowered old now target → AreLowered old next target
lowered_next old now next target n v is one lowered = record {
  below = λ x. by_below x (eq_by_cmp resource_cmp x n) refl;
  least = λ x. by_least x (eq_by_cmp resource_cmp x n) refl;
}
  where
    to : (x : Resource) (b : Bool) → eq_by_cmp resource_cmp x n ≡ b → next x ≡ cond b (min (now n) v) (now x)
    to x b t = one x ∙ ap (λ z. cond z (min (now n) v) (now x)) t

    by_below : (x : Resource) (b : Bool) → eq_by_cmp resource_cmp x n ≡ b → next x ≤ old x
    by_below x true t =
        let next_is = to x true t in
        let same : now n ≡ now x = ap now (sym (same_resource x n t)) in
        let was = lowered.below x in omega arith
    by_below x false t = let next_is = to x false t in let was = lowered.below x in omega arith

    by_least : (x : Resource) (b : Bool) → eq_by_cmp resource_cmp x n ≡ b → min (old x) (target x) ≤ next x
    by_least x true t =
        let next_is = to x true t in
        let same : now n ≡ now x = ap now (sym (same_resource x n t)) in
        let also : target n ≡ target x = ap target (sym (same_resource x n t)) in
        let was = lowered.least x in omega arith
    by_least x false t = let next_is = to x false t in let was = lowered.least x in omega arith

low_next : (now next target : Resource → ℕ) (n : Resource) (v : ℕ) → v ≡ target n → LoweredOne now next n v → (x : Resource) (later : Bool) → (now x ≤ target x) ⊎ ((eq_by_cmp resource_cmp x n || later) ≡ true) → (next x ≤ target x) ⊎ (later ≡ true)
low_next now next target n v is one x later was = by_test (eq_by_cmp resource_cmp x n) refl was
  where
    to : (b : Bool) → eq_by_cmp resource_cmp x n ≡ b → next x ≡ cond b (min (now n) v) (now x)
    to b t = one x ∙ ap (λ z. cond z (min (now n) v) (now x)) t

    by_test : (b : Bool) → eq_by_cmp resource_cmp x n ≡ b → (now x ≤ target x) ⊎ ((b || later) ≡ true) → (next x ≤ target x) ⊎ (later ≡ true)
    by_test true t was =
        let next_is = to true t in
        let also : target n ≡ target x = ap target (sym (same_resource x n t)) in
        inl (omega arith)
    by_test false t (inl low) = let next_is = to false t in inl (omega arith)
    by_test false t (inr any) = inr any

-- ---- over a list of names

front : (ns : List Resource) (i : ℕ) (n : Resource) → i < length ns → n ≡ get_or ns i n → drop i ns ≡ n ∷ drop (suc i) ns
front ns i n h is = drop-cons ns i n h ∙ ap (λ z. z ∷ drop (suc i) ns) (sym is)

nothing_left : (ns : List Resource) (i : ℕ) → length ns ≤ i → drop i ns ≡ []
nothing_left [] zero h = refl
nothing_left [] (suc i) h = refl
nothing_left (n ∷ ns) zero h = absurd (omega arith)
nothing_left (n ∷ ns) (suc i) h = nothing_left ns i (omega arith)

abbrev pub HighLeft : (Resource → ℕ) → (Resource → ℕ) → List Resource → ℕ → Type 0
HighLeft now others ns i = (x : Resource) → is_listed x ns ≡ true → (others x ≤ now x) ⊎ (is_listed x (drop i ns) ≡ true)

pub high_next : (now next others : Resource → ℕ) (ns : List Resource) (i k : ℕ) (n : Resource) (v : ℕ) → suc i ≡ k → i < length ns → n ≡ get_or ns i n → v ≡ others n → RaisedOne now next n v → HighLeft now others ns i → HighLeft next others ns k
high_next now next others ns i k n v k_is h is v_is one left x named =
    subst (λ j. (others x ≤ next x) ⊎ (is_listed x (drop j ns) ≡ true)) k_is
    (reached_next now next others n v v_is one x (is_listed x (drop (suc i) ns)) (subst (λ z. (others x ≤ now x) ⊎ (is_listed x z ≡ true)) (front ns i n h is) (left x named)))

pub high_done : (now others : Resource → ℕ) (ns : List Resource) (i : ℕ) → length ns ≤ i → HighLeft now others ns i → (x : Resource) → is_listed x ns ≡ true → others x ≤ now x
high_done now others ns i h left x named = elim (left x named) [
  | inl high ↦ high
  | inr any ↦ let none : false ≡ true = sym (ap (is_listed x) (nothing_left ns i h)) ∙ any in absurd (cc)
]

-- ---- over the entries of counts

pub record Sinking (old now target : Resource → ℕ) (over : Counts) (rest : List (Resource × ℕ)) : Type 0 where
  pub lowered : AreLowered old now target
  pub reaching : (x : Resource) → 0 < count_of over x → (now x ≤ target x) ⊎ (list_any (is_key x) rest ≡ true)

pub sinking_first : (old target : Resource → ℕ) (over : Counts) → Sinking old old target over (finmap.entries over)
sinking_first old target over = record { lowered = lowered_first old target; reaching = λ x h. inr (key_among over x h) }

pub sinking_next : (old now next target : Resource → ℕ) (over : Counts) (e : Resource × ℕ) (fs rest : List (Resource × ℕ)) (v : ℕ) → rest ≡ e ∷ fs → v ≡ target e.0 → LoweredOne now next e.0 v → Sinking old now target over rest → Sinking old next target over fs
sinking_next old now next target over e fs rest v is v_is one sinking = record {
  lowered = lowered_next old now next target e.0 v v_is one sinking.lowered;
  reaching = λ x h. low_next now next target e.0 v v_is one x (list_any (is_key x) fs) (subst (λ z. (now x ≤ target x) ⊎ (list_any (is_key x) z ≡ true)) is (sinking.reaching x h));
}

pub sunk : (old now target : Resource → ℕ) (over : Counts) (rest : List (Resource × ℕ)) → rest ≡ [] → Sinking old now target over rest → (x : Resource) → 0 < count_of over x → now x ≤ target x
sunk old now target over rest is sinking x h = elim (sinking.reaching x h) [
  | inl low ↦ low
  | inr any ↦ let none : false ≡ true = ap (list_any (is_key x)) (sym is) ∙ any in absurd (cc)
]

-- as many fewer as the others have, which is told by what was there before
abbrev pub given_to : (Resource → ℕ) → Counts → Resource → ℕ
given_to before others x = before x - count_of others x

pub gives_next : (others : Counts) (e : Resource × ℕ) (fs rest : List (Resource × ℕ)) → rest ≡ e ∷ fs → AreThere others rest → AreThere others fs
gives_next others e fs rest is there = (subst (AreThere others) is there).1

pub gives : (before : Resource → ℕ) (others : Counts) (e : Resource × ℕ) (fs rest : List (Resource × ℕ)) (b v : ℕ) → rest ≡ e ∷ fs → AreThere others rest → b ≡ before e.0 → v ≡ b - e.1 → v ≡ given_to before others e.0
gives before others e fs rest b v is there b_is v_is =
    let here : AreThere others (e ∷ fs) = subst (AreThere others) is there in
    let count : count_of others e.0 ≡ e.1 = ap (λ z. unwrap_or z 0) here.0 in
    v_is ∙ ap (λ z. z - e.1) b_is ∙ ap (λ z. before e.0 - z) (sym count)

pub given_all : (before old now : Resource → ℕ) (others : Counts) (rest : List (Resource × ℕ)) → ((x : Resource) → before x ≡ old x) → rest ≡ [] → Sinking old now (given_to before others) others rest → (x : Resource) → now x ≡ old x - count_of others x
given_all before old now others rest same is sinking x =
    let low = sinking.lowered in
    by_count (count_of others x) refl (same x) (low.below x) (low.least x) (sunk old now (given_to before others) others rest is sinking x)
  where
    by_count : (n : ℕ) → count_of others x ≡ n → before x ≡ old x → now x ≤ old x → min (old x) (given_to before others x) ≤ now x → (0 < count_of others x → now x ≤ given_to before others x) → now x ≡ old x - count_of others x
    by_count zero e same below least reached = omega arith
    by_count (suc n) e same below least reached = let low = reached (omega arith) in omega arith

-- ---- by a list of names, one each

abbrev pub OneFewer : (Resource → ℕ) → (Resource → ℕ) → Resource → Type 0
OneFewer now next n = (x : Resource) → next x ≡ cond (eq_by_cmp resource_cmp x n) (now n - 1) (now x)

abbrev pub OneMore : (Resource → ℕ) → (Resource → ℕ) → Resource → Type 0
OneMore now next n = (x : Resource) → next x ≡ cond (eq_by_cmp resource_cmp x n) (now n + 1) (now x)

-- with those that are left it will be what all names leave
abbrev pub FewerLeft : (Resource → ℕ) → (Resource → ℕ) → List Resource → ℕ → Type 0
FewerLeft old now ns i = (x : Resource) → now x - times x (drop i ns) ≡ old x - times x ns

abbrev pub MoreLeft : (Resource → ℕ) → (Resource → ℕ) → List Resource → ℕ → Type 0
MoreLeft old now ns i = (x : Resource) → now x + times x (drop i ns) ≡ old x + times x ns

pub fewer_next : (old now next : Resource → ℕ) (ns : List Resource) (i k : ℕ) (n : Resource) → suc i ≡ k → i < length ns → n ≡ get_or ns i n → OneFewer now next n → FewerLeft old now ns i → FewerLeft old next ns k
fewer_next old now next ns i k n k_is h is one left x =
    ap (λ j. next x - times x (drop j ns)) (sym k_is) ∙ by_test (eq_by_cmp resource_cmp x n) refl (one x) (ap (λ z. now x - times x z) (sym (front ns i n h is)) ∙ left x)
  where
    by_test : (b : Bool) → eq_by_cmp resource_cmp x n ≡ b → next x ≡ cond b (now n - 1) (now x)
        → now x - length (cond b (n ∷ filter (eq_by_cmp resource_cmp x) (drop (suc i) ns)) (filter (eq_by_cmp resource_cmp x) (drop (suc i) ns))) ≡ old x - times x ns → next x - times x (drop (suc i) ns) ≡ old x - times x ns
    by_test true t step whole = let same : now x ≡ now n = ap now (same_resource x n t) in omega arith
    by_test false t step whole = omega arith

pub more_next : (old now next : Resource → ℕ) (ns : List Resource) (i k : ℕ) (n : Resource) → suc i ≡ k → i < length ns → n ≡ get_or ns i n → OneMore now next n → MoreLeft old now ns i → MoreLeft old next ns k
more_next old now next ns i k n k_is h is one left x =
    ap (λ j. next x + times x (drop j ns)) (sym k_is) ∙ by_test (eq_by_cmp resource_cmp x n) refl (one x) (ap (λ z. now x + times x z) (sym (front ns i n h is)) ∙ left x)
  where
    by_test : (b : Bool) → eq_by_cmp resource_cmp x n ≡ b → next x ≡ cond b (now n + 1) (now x)
        → now x + length (cond b (n ∷ filter (eq_by_cmp resource_cmp x) (drop (suc i) ns)) (filter (eq_by_cmp resource_cmp x) (drop (suc i) ns))) ≡ old x + times x ns → next x + times x (drop (suc i) ns) ≡ old x + times x ns
    by_test true t step whole = let same : now x ≡ now n = ap now (same_resource x n t) in omega arith
    by_test false t step whole = omega arith

pub fewer_done : (old now : Resource → ℕ) (ns : List Resource) (i : ℕ) → length ns ≤ i → FewerLeft old now ns i → (x : Resource) → now x ≡ old x - times x ns
fewer_done old now ns i h left x = let none : times x (drop i ns) ≡ 0 = ap (times x) (nothing_left ns i h) in let whole : now x - times x (drop i ns) ≡ old x - times x ns = left x in omega arith

-- there is room for the next one
pub more_fits : (old now : Resource → ℕ) (ns : List Resource) (i : ℕ) (n : Resource) → i < length ns → n ≡ get_or ns i n → ((x : Resource) → old x + times x ns ≤ 65535) → MoreLeft old now ns i → now n + 1 ≤ 65535
more_fits old now ns i n h is small left =
    let whole : now n + times n (drop i ns) ≡ old n + times n ns = left n in
    let once : 1 ≤ times n (n ∷ drop (suc i) ns) = once_itself n (drop (suc i) ns) in
    let same : times n (drop i ns) ≡ times n (n ∷ drop (suc i) ns) = ap (times n) (front ns i n h is) in
    let s : old n + times n ns ≤ 65535 = small n in
    omega arith

-- those that came are taken back
pub more_back : (old now mid new : Resource → ℕ) (ns : List Resource) (i : ℕ) → MoreLeft old now ns i → ((x : Resource) → mid x ≡ now x) → ((x : Resource) → new x ≡ mid x - times x (take i ns)) → (x : Resource) → new x ≡ old x
more_back old now mid new ns i left same back x =
    let whole : now x + times x (drop i ns) ≡ old x + times x ns = left x in
    let parted : times x (take i ns) + times x (drop i ns) ≡ times x ns = times_parted x i ns in
    let m : mid x ≡ now x = same x in
    let b : new x ≡ mid x - times x (take i ns) = back x in
    omega arith

-- ---- room for a list

abbrev pub RoomLeft : (Resource → ℕ) → List Resource → ℕ → Type 0
RoomLeft counts ns i = (x : Resource) → is_listed x ns ≡ true → (counts x + length ns ≤ 65535) ⊎ (is_listed x (drop i ns) ≡ true)

pub room_next : (counts : Resource → ℕ) (ns : List Resource) (i k : ℕ) (n : Resource) → suc i ≡ k → i < length ns → n ≡ get_or ns i n → counts n + length ns ≤ 65535 → RoomLeft counts ns i → RoomLeft counts ns k
room_next counts ns i k n k_is h is room left x named =
    subst (λ j. (counts x + length ns ≤ 65535) ⊎ (is_listed x (drop j ns) ≡ true)) k_is
    (by_test (eq_by_cmp resource_cmp x n) refl (subst (λ z. (counts x + length ns ≤ 65535) ⊎ (is_listed x z ≡ true)) (front ns i n h is) (left x named)))
  where
    by_test : (b : Bool) → eq_by_cmp resource_cmp x n ≡ b → (counts x + length ns ≤ 65535) ⊎ ((b || is_listed x (drop (suc i) ns)) ≡ true) → (counts x + length ns ≤ 65535) ⊎ (is_listed x (drop (suc i) ns) ≡ true)
    by_test true t was = let same : counts x ≡ counts n = ap counts (same_resource x n t) in inl (omega arith)
    by_test false t was = was
