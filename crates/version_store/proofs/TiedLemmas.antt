-- Trees of ids and chains: what a change of either does to the versions.
use Rattle.std.proofs.Common.{◌≡◌, ◌≢◌, ℕ, suc, ◌+◌, ◌≤◌, List, [], ◌∷◌, refl, sym, ap, ◌∙◌, subst, arith, length, ◌⊎◌, inl, inr}
use Rattle.std.specs.Prelude.{Bool, true, false, not, cond, Option, Some, None, is_some, IsSome, Result, Ok, Err, OnOk, OnErr}
use Rattle.std.specs.Ordering.{is_lt, eq_by_cmp}
use Rattle.std.specs.Cmp.{first_so, second_so, eq_by_cmp_equiv}
use Rattle.std.specs.Bool.{passes}
use Rattle.std.specs.Option.{option_map, option_and_then}
use Rattle.std.specs.FinMap as finmap
use Rattle.std.specs.FinMap.{find, put, is_sorted, get, get-insert, get-remove, get-from_sorted, same_map, empty, empty_of_len, len-entries, entries-from_sorted}
use Rattle.std.specs.FinMap.Entries.{below_all, is_sorted-put, is_sorted-where_key, find-put, find-where_key, length-put, length_without}
use Rattle.collation.specs.Reference.{Reference}
use Rattle.collation.specs.Order.{ref_cmp}
use Rattle.collation.specs.laws.Order.{ref_cmp_total, ref_cmp-IsAntisymmetric, is_equal}
use Rattle.globals.specs.laws.Nearest.{true_of}
use Rattle.version_chain.specs.Versions.{at_of, newest_of, IsAbove, IsFalling}
use Rattle.btree.specs.Order.{without}
use Rattle.version_chain.specs.Cut.{left_after}
use Rattle.version_chain.specs.laws.Cut.{IsAbove-left_after, IsFalling-left_after}
use Rattle.version_chain.specs.Chains.{ChainsState, chain_at, versions_at, listed, IsOpen, Updates}
use Rattle.version_chain.specs.laws.Chains.{slot_count, open_count_updated}
use Rattle.version_store.specs.Versions.{Row, Versions, versions_of, content_at, with_version, is_bare}
use Rattle.version_store.specs.laws.Content.{get_content}
use Rattle.version_store.specs.Tied.{rows, versions_in, IsTied}

abbrev pub State : Type 0
State = ChainsState (List ℕ)

abbrev pub Pairs : Type 0
Pairs = List (Reference × ℕ)

pub same_some : {A : Type 0} (x y : A) → Some x ≡ Some y → x ≡ y
same_some x y e = cc

pub below_rows : (c : State) (x : Reference) (ps : Pairs) → below_all ref_cmp x ps ≡ true → below_all ref_cmp x (rows c ps) ≡ true
below_rows c x [] h = refl
below_rows c x (p ∷ ps) h = rw (first_so (is_lt (ref_cmp x p.0)) _ h) (below_rows c x ps (second_so (is_lt (ref_cmp x p.0)) _ h))

pub sorted_rows : (c : State) (ps : Pairs) → is_sorted ref_cmp ps ≡ true → is_sorted ref_cmp (rows c ps) ≡ true
sorted_rows c [] h = refl
sorted_rows c (p ∷ ps) h = rw (below_rows c p.0 ps (first_so (below_all ref_cmp p.0 ps) _ h)) (sorted_rows c ps (second_so (below_all ref_cmp p.0 ps) _ h))

find_rows : (c : State) (q : Reference) (ps : Pairs) → find ref_cmp q (rows c ps) ≡ option_map (versions_at c) (find ref_cmp q ps)
find_rows c q [] = refl
find_rows c q (p ∷ ps) = by_tie (eq_by_cmp ref_cmp q p.0) (find_rows c q ps)
  where
    by_tie : (t : Bool) → find ref_cmp q (rows c ps) ≡ option_map (versions_at c) (find ref_cmp q ps) → cond t (Some (versions_at c p.1)) (find ref_cmp q (rows c ps)) ≡ option_map (versions_at c) (cond t (Some p.1) (find ref_cmp q ps))
    by_tie true rest = refl
    by_tie false rest = rest

-- the entries of the versions
pub entries_in : (c : State) (ps : Pairs) → is_sorted ref_cmp ps ≡ true → finmap.entries (versions_in c ps) ≡ rows c ps
entries_in c ps h = entries-from_sorted ref_cmp (rows c ps) (passes _ (sorted_rows c ps h))

-- the versions of a key
pub get_in : (c : State) (ps : Pairs) (q : Reference) → is_sorted ref_cmp ps ≡ true → get (versions_in c ps) q ≡ option_map (versions_at c) (find ref_cmp q ps)
get_in c ps q h = get-from_sorted ref_cmp (rows c ps) q (passes _ (sorted_rows c ps h)) ∙ find_rows c q ps

pub versions_none : (c : State) → versions_in c [] ≡ empty
versions_none c = empty_of_len _ (len-entries _ ∙ ap (λ (es : List (Reference × Row)). length es) (entries_in c [] refl))

pub get_at : (c : State) (ps : Pairs) (q : Reference) (id : ℕ) → is_sorted ref_cmp ps ≡ true → find ref_cmp q ps ≡ Some id → get (versions_in c ps) q ≡ Some (versions_at c id)
get_at c ps q id h at = get_in c ps q h ∙ ap (option_map (versions_at c)) at

same_get : (m n : Versions) → ((q : Reference) → get m q ≡ get n q) → m ≡ n
same_get m n is = same_map ref_cmp_total ref_cmp-IsAntisymmetric m n is

-- ---- other chains

-- the chains under the tree's ids are the same
pub record AreAsBefore (ps : Pairs) (c d : State) : Type 0 where
  pub same : (q : Reference) (id : ℕ) → find ref_cmp q ps ≡ Some id → chain_at d id ≡ chain_at c id

map_same : (c d : State) (o : Option ℕ) → ((id : ℕ) → o ≡ Some id → chain_at d id ≡ chain_at c id) → option_map (versions_at d) o ≡ option_map (versions_at c) o
map_same c d None same = refl
map_same c d (Some id) same = ap (λ x. Some (listed x)) (same id refl)

not_some : (A : Type 0) → IsSome {T = A} None → ⊥
not_some A e = cc

-- an id that isn't open is none of the tree's
not_named : (c : State) (ps : Pairs) (now id : ℕ) (q : Reference) (i : ℕ) → IsTied ps c now → chain_at c id ≡ None → find ref_cmp q ps ≡ Some i → i ≢ id
not_named c ps now id q i tied vacant at same = not_some Row (subst IsSome (ap (chain_at c) same ∙ vacant) (tied.opened q i at))

pub as_before_vacant : (c d : State) (ps : Pairs) (now id : ℕ) (o : Option Row) → IsTied ps c now → chain_at c id ≡ None → Updates c d id o → AreAsBefore ps c d
as_before_vacant c d ps now id o tied vacant updates = record { same = λ q i at. updates.others i (not_named c ps now id q i tied vacant at) }

-- a chain that was opened and closed again leaves all as it was
pub tied_back : (c d e : State) (ps : Pairs) (now id : ℕ) → IsTied ps c now → chain_at c id ≡ None → Updates c d id (Some []) → Updates d e id None → IsTied ps e now
tied_back c d e ps now id tied vacant opening closing =
    let same : (q : Reference) (i : ℕ) → find ref_cmp q ps ≡ Some i → chain_at e i ≡ chain_at c i =
    λ q i at. let other = not_named c ps now id q i tied vacant at in closing.others i other ∙ opening.others i other in
    record {
      sorted = tied.sorted;
      opened = λ q i at. subst IsSome (sym (same q i at)) (tied.opened q i at);
      apart = tied.apart;
      settled = λ q i at. subst (λ x. IsAbove (suc now) (listed x)) (sym (same q i at)) (tied.settled q i at);
      fresh = λ z q i at. ap listed (same q i at) ∙ tied.fresh z q i at;
      falls = λ q i at. subst (λ x. IsFalling (listed x)) (sym (same q i at)) (tied.falls q i at);
      counted =
          let one : slot_count {A = Row} (Some []) ≡ 1 = refl in
          let none : slot_count {A = Row} None ≡ 0 = refl in
          let first = open_count_updated c d id (Some []) opening in
          let second = open_count_updated d e id None closing in
          let was : slot_count (chain_at c id) ≡ 0 = ap slot_count vacant in
          let meanwhile : slot_count (chain_at d id) ≡ 1 = ap slot_count opening.changed in
          let before = tied.counted in
          omega (arith, one, none, first, second, was, meanwhile, before);
    }

pub versions_back : (c d e : State) (ps : Pairs) (now id : ℕ) → IsTied ps c now → chain_at c id ≡ None → Updates c d id (Some []) → Updates d e id None → versions_in e ps ≡ versions_in c ps
versions_back c d e ps now id tied vacant opening closing = same_get _ _ (λ q.
    get_in e ps q tied.sorted
    ∙ map_same c e (find ref_cmp q ps) (λ i at. let other = not_named c ps now id q i tied vacant at in closing.others i other ∙ opening.others i other)
    ∙ sym (get_in c ps q tied.sorted))

-- ---- one more key

pub versions_put : (c d : State) (ps : Pairs) (now id : ℕ) (k : Reference) → IsTied ps c now → chain_at c id ≡ None → Updates c d id (Some []) → versions_in d (put ref_cmp k id ps) ≡ finmap.insert (versions_in c ps) k []
versions_put c d ps now id k tied vacant updates =
    let sorted : is_sorted ref_cmp (put ref_cmp k id ps) ≡ true = true_of _ (is_sorted-put ref_cmp ref_cmp_total k id ps (passes _ tied.sorted)) in
    let before : AreAsBefore ps c d = as_before_vacant c d ps now id (Some []) tied vacant updates in
    same_get _ _ (λ q.
    get_in d (put ref_cmp k id ps) q sorted
    ∙ ap (option_map (versions_at d)) (find-put ref_cmp ref_cmp_total q k id ps)
    ∙ by_tie (eq_by_cmp ref_cmp q k) (find ref_cmp q ps) (map_same c d (find ref_cmp q ps) (before.same q))
    ∙ ap (cond (eq_by_cmp ref_cmp q k) (Some [])) (sym (get_in c ps q tied.sorted))
    ∙ sym (get-insert ref_cmp_total (versions_in c ps) k [] q))
  where
    by_tie : (t : Bool) (o : Option ℕ) → option_map (versions_at d) o ≡ option_map (versions_at c) o → option_map (versions_at d) (cond t (Some id) o) ≡ cond t (Some []) (option_map (versions_at c) o)
    by_tie true o same = ap (λ x. Some (listed x)) updates.changed
    by_tie false o same = same

-- what a look-up gives once a key is put
put_cases : (k : Reference) (id : ℕ) (ps : Pairs) (q : Reference) (i : ℕ) → find ref_cmp q (put ref_cmp k id ps) ≡ Some i → ((eq_by_cmp ref_cmp q k ≡ true) × (id ≡ i)) ⊎ (find ref_cmp q ps ≡ Some i)
put_cases k id ps q i at = by_tie (eq_by_cmp ref_cmp q k) refl (sym (find-put ref_cmp ref_cmp_total q k id ps) ∙ at)
  where
    by_tie : (t : Bool) → eq_by_cmp ref_cmp q k ≡ t → cond t (Some id) (find ref_cmp q ps) ≡ Some i → ((eq_by_cmp ref_cmp q k ≡ true) × (id ≡ i)) ⊎ (find ref_cmp q ps ≡ Some i)
    by_tie true t e = inl (t, same_some id i e)
    by_tie false t e = inr e

pub tied_put : (c d : State) (ps : Pairs) (now id : ℕ) (k : Reference) → IsTied ps c now → find ref_cmp k ps ≡ None → chain_at c id ≡ None → Updates c d id (Some []) → IsTied (put ref_cmp k id ps) d now
tied_put c d ps now id k tied none vacant updates =
    let laws = eq_by_cmp_equiv ref_cmp_total in
    let before : AreAsBefore ps c d = as_before_vacant c d ps now id (Some []) tied vacant updates in
    record {
      sorted = true_of _ (is_sorted-put ref_cmp ref_cmp_total k id ps (passes _ tied.sorted));
      opened = λ q i at. elim (put_cases k id ps q i at) as (λ _. IsOpen d i) [
        | inl e ↦ subst IsSome (sym updates.changed ∙ ap (chain_at d) e.1) refl
        | inr e ↦ subst IsSome (sym (before.same q i e)) (tied.opened q i e)
      ];
      apart = λ q r i at there. elim (put_cases k id ps q i at) as (λ _. eq_by_cmp ref_cmp q r ≡ true) [
        | inl e ↦ elim (put_cases k id ps r i there) as (λ _. eq_by_cmp ref_cmp q r ≡ true) [
          | inl f ↦ both_tied q r e.0 f.0
          | inr f ↦ absurd (not_named c ps now id r i tied vacant f (sym e.1))
        ]
        | inr e ↦ elim (put_cases k id ps r i there) as (λ _. eq_by_cmp ref_cmp q r ≡ true) [
          | inl f ↦ absurd (not_named c ps now id q i tied vacant e (sym f.1))
          | inr f ↦ tied.apart q r i e f
        ]
      ];
      settled = λ q i at. elim (put_cases k id ps q i at) as (λ _. IsAbove (suc now) (versions_at d i)) [
        | inl e ↦ subst (λ x. IsAbove (suc now) (listed x)) (sym updates.changed ∙ ap (chain_at d) e.1) tt
        | inr e ↦ subst (λ x. IsAbove (suc now) (listed x)) (sym (before.same q i e)) (tied.settled q i e)
      ];
      fresh = λ z q i at. elim (put_cases k id ps q i at) as (λ _. versions_at d i ≡ []) [
        | inl e ↦ ap listed (ap (chain_at d) (sym e.1) ∙ updates.changed)
        | inr e ↦ ap listed (before.same q i e) ∙ tied.fresh z q i e
      ];
      falls = λ q i at. elim (put_cases k id ps q i at) as (λ _. IsFalling (versions_at d i)) [
        | inl e ↦ subst (λ x. IsFalling (listed x)) (sym updates.changed ∙ ap (chain_at d) e.1) tt
        | inr e ↦ subst (λ x. IsFalling (listed x)) (sym (before.same q i e)) (tied.falls q i e)
      ];
      counted =
          let one : slot_count {A = Row} (Some []) ≡ 1 = refl in
          let law = open_count_updated c d id (Some []) updates in
          let was : slot_count (chain_at c id) ≡ 0 = ap slot_count vacant in
          let long = length-put ref_cmp ref_cmp_total k id ps (passes _ tied.sorted) ∙ ap (λ (o : Option ℕ). cond (is_some o) (length ps) (length ps + 1)) none in
          let before = tied.counted in
          omega (arith, law, was, one, long, before);
    }
  where
    both_tied : (q r : Reference) → eq_by_cmp ref_cmp q k ≡ true → eq_by_cmp ref_cmp r k ≡ true → eq_by_cmp ref_cmp q r ≡ true
    both_tied q r a b = subst (λ x. eq_by_cmp ref_cmp x r ≡ true) (sym (ref_cmp-IsAntisymmetric q k (is_equal _ a))) (let laws = eq_by_cmp_equiv ref_cmp_total in laws.symm k r ∙ b)

-- ---- another chain under one key

-- either the id is that of the key, or another
other_or : (c : State) (ps : Pairs) (now : ℕ) (k q : Reference) (id i : ℕ) → IsTied ps c now → find ref_cmp k ps ≡ Some id → find ref_cmp q ps ≡ Some i → ((eq_by_cmp ref_cmp q k ≡ true) × (i ≡ id)) ⊎ ((eq_by_cmp ref_cmp q k ≡ false) × (i ≢ id))
other_or c ps now k q id i tied at there = by_tie (eq_by_cmp ref_cmp q k) refl
  where
    by_tie : (t : Bool) → eq_by_cmp ref_cmp q k ≡ t → ((eq_by_cmp ref_cmp q k ≡ true) × (i ≡ id)) ⊎ ((eq_by_cmp ref_cmp q k ≡ false) × (i ≢ id))
    by_tie true t = inl (t, same_some i id (sym there ∙ ap (λ x. find ref_cmp x ps) (ref_cmp-IsAntisymmetric q k (is_equal _ t)) ∙ at))
    by_tie false t = inr (t, λ e. let tie = tied.apart q k id (there ∙ ap Some e) at in absurd (cc))

pub versions_update : (c d : State) (ps : Pairs) (now id : ℕ) (k : Reference) (vs : Row) → IsTied ps c now → find ref_cmp k ps ≡ Some id → Updates c d id (Some vs) → versions_in d ps ≡ finmap.insert (versions_in c ps) k vs
versions_update c d ps now id k vs tied at updates = same_get _ _ (λ q.
    get_in d ps q tied.sorted
    ∙ by_found q (find ref_cmp q ps) refl
    ∙ ap (cond (eq_by_cmp ref_cmp q k) (Some vs)) (sym (get_in c ps q tied.sorted))
    ∙ sym (get-insert ref_cmp_total (versions_in c ps) k vs q))
  where
    none_tied : (q : Reference) (t : Bool) → eq_by_cmp ref_cmp q k ≡ t → find ref_cmp q ps ≡ None → None ≡ cond t (Some vs) None
    none_tied q true t none = let same = sym (ap (λ x. find ref_cmp x ps) (ref_cmp-IsAntisymmetric q k (is_equal _ t))) ∙ none in absurd (cc)
    none_tied q false t none = refl

    by_found : (q : Reference) (o : Option ℕ) → find ref_cmp q ps ≡ o → option_map (versions_at d) o ≡ cond (eq_by_cmp ref_cmp q k) (Some vs) (option_map (versions_at c) o)
    by_found q None there = none_tied q (eq_by_cmp ref_cmp q k) refl there
    by_found q (Some i) there = elim (other_or c ps now k q id i tied at there) as (λ _. Some (versions_at d i) ≡ cond (eq_by_cmp ref_cmp q k) (Some vs) (Some (versions_at c i))) [
      | inl e ↦ ap (λ j. Some (versions_at d j)) e.1 ∙ ap (λ x. Some (listed x)) updates.changed ∙ ap (λ b. cond b (Some vs) (Some (versions_at c i))) (sym e.0)
      | inr e ↦ ap (λ x. Some (listed x)) (updates.others i e.1) ∙ ap (λ b. cond b (Some vs) (Some (versions_at c i))) (sym e.0)
    ]

pub tied_update : (c d : State) (ps : Pairs) (now id : ℕ) (k : Reference) (vs : Row) → IsTied ps c now → find ref_cmp k ps ≡ Some id → Updates c d id (Some vs) → IsAbove (suc now) vs → (now ≡ 0 → vs ≡ []) → IsFalling vs → IsTied ps d now
tied_update c d ps now id k vs tied at updates low none falling = record {
  sorted = tied.sorted;
  opened = λ q i there. elim (other_or c ps now k q id i tied at there) as (λ _. IsOpen d i) [
    | inl e ↦ subst IsSome (sym updates.changed ∙ ap (chain_at d) (sym e.1)) refl
    | inr e ↦ subst IsSome (sym (updates.others i e.1)) (tied.opened q i there)
  ];
  apart = tied.apart;
  settled = λ q i there. elim (other_or c ps now k q id i tied at there) as (λ _. IsAbove (suc now) (versions_at d i)) [
    | inl e ↦ subst (λ x. IsAbove (suc now) (listed x)) (sym updates.changed ∙ ap (chain_at d) (sym e.1)) low
    | inr e ↦ subst (λ x. IsAbove (suc now) (listed x)) (sym (updates.others i e.1)) (tied.settled q i there)
  ];
  fresh = λ z q i there. elim (other_or c ps now k q id i tied at there) as (λ _. versions_at d i ≡ []) [
    | inl e ↦ ap listed (ap (chain_at d) e.1 ∙ updates.changed) ∙ none z
    | inr e ↦ ap listed (updates.others i e.1) ∙ tied.fresh z q i there
  ];
  falls = λ q i there. elim (other_or c ps now k q id i tied at there) as (λ _. IsFalling (versions_at d i)) [
    | inl e ↦ subst (λ x. IsFalling (listed x)) (sym updates.changed ∙ ap (chain_at d) (sym e.1)) falling
    | inr e ↦ subst (λ x. IsFalling (listed x)) (sym (updates.others i e.1)) (tied.falls q i there)
  ];
  counted =
      let one : slot_count {A = Row} (Some vs) ≡ 1 = refl in
      let law = open_count_updated c d id (Some vs) updates in
      let was : slot_count (chain_at c id) ≡ 1 = ap (λ b. cond b 1 0) (tied.opened k id at) in
      let before = tied.counted in
      omega (arith, law, was, one, before);
}

-- ---- now

above_later : (now later : ℕ) (vs : Row) → now ≤ later → IsAbove (suc now) vs → IsAbove (suc later) vs
above_later now later [] le low = tt
above_later now later (v ∷ vs) le low = omega (arith, le, low)

pub tied_later : (c : State) (ps : Pairs) (now later : ℕ) → IsTied ps c now → now ≤ later → IsTied ps c later
tied_later c ps now later tied le = record {
  sorted = tied.sorted;
  opened = tied.opened;
  apart = tied.apart;
  settled = λ q id e. above_later now later (versions_at c id) le (tied.settled q id e);
  fresh = λ z. tied.fresh (omega (arith, le, z));
  falls = tied.falls;
  counted = tied.counted;
}

-- no version of the store is after a stamp that none of the chains' is after
pub above_in : (c : State) (ps : Pairs) (latest : ℕ) → is_sorted ref_cmp ps ≡ true → ((q : Reference) (id : ℕ) → find ref_cmp q ps ≡ Some id → IsAbove (suc latest) (versions_at c id)) → (q : Reference) → IsAbove (suc latest) (versions_of (versions_in c ps) q)
above_in c ps latest sorted each q = subst (λ o. IsAbove (suc latest) (listed o)) (sym (get_in c ps q sorted)) (by_found (find ref_cmp q ps) refl)
  where
    by_found : (o : Option ℕ) → find ref_cmp q ps ≡ o → IsAbove (suc latest) (listed (option_map (versions_at c) o))
    by_found None e = tt
    by_found (Some id) e = each q id e

-- none is after now
pub low_in : (c : State) (ps : Pairs) (now : ℕ) → IsTied ps c now → (q : Reference) → IsAbove (suc now) (versions_of (versions_in c ps) q)
low_in c ps now tied = above_in c ps now tied.sorted tied.settled

-- where now is 0 there is nothing at it
pub nothing_in : (c : State) (ps : Pairs) (now : ℕ) → IsTied ps c now → now ≡ 0 → content_at (versions_in c ps) 0 ≡ finmap.empty
nothing_in c ps now tied z = same_map ref_cmp_total ref_cmp-IsAntisymmetric (content_at (versions_in c ps) 0) finmap.empty (λ q.
    get_content (versions_in c ps) 0 q ∙ ap (option_and_then (at_of 0)) (get_in c ps q tied.sorted) ∙ by_found q (find ref_cmp q ps) refl ∙ sym (finmap.get-empty ref_cmp q))
  where
    by_found : (q : Reference) (o : Option ℕ) → find ref_cmp q ps ≡ o → option_and_then (at_of 0) (option_map (versions_at c) o) ≡ None
    by_found q None e = refl
    by_found q (Some id) e = ap (at_of 0) (tied.fresh z q id e)

-- ---- what the look-ups of the tree say

pub row_in : (c : State) (ps : Pairs) (q : Reference) (id : ℕ) → is_sorted ref_cmp ps ≡ true → Some id ≡ find ref_cmp q ps → versions_of (versions_in c ps) q ≡ versions_at c id
row_in c ps q id h at = ap listed (get_at c ps q id h (sym at))

pub value_in : (c : State) (ps : Pairs) (q : Reference) (id s : ℕ) → is_sorted ref_cmp ps ≡ true → Some id ≡ find ref_cmp q ps → at_of s (versions_at c id) ≡ get (content_at (versions_in c ps) s) q
value_in c ps q id s h at = sym (get_content (versions_in c ps) s q ∙ ap (option_and_then (at_of s)) (get_at c ps q id h (sym at)))

pub none_in : (c : State) (ps : Pairs) (q : Reference) → is_sorted ref_cmp ps ≡ true → None ≡ find ref_cmp q ps → get (versions_in c ps) q ≡ None
none_in c ps q h at = get_in c ps q h ∙ ap (option_map (versions_at c)) (sym at)

pub no_value_in : (c : State) (ps : Pairs) (q : Reference) (s : ℕ) → is_sorted ref_cmp ps ≡ true → None ≡ find ref_cmp q ps → None ≡ get (content_at (versions_in c ps) s) q
no_value_in c ps q s h at = sym (get_content (versions_in c ps) s q ∙ ap (option_and_then (at_of s)) (none_in c ps q h at))

some_mapped : {A B C : Type 0} (f : A → B) (g : B → C) (o : Option A) → is_some o ≡ is_some (option_map g (option_map f o))
some_mapped f g None = refl
some_mapped f g (Some x) = refl

pub placed_in : {A : Type 0} (f : A → ℕ) (o : Option A) (c : State) (ps : Pairs) (q : Reference) → is_sorted ref_cmp ps ≡ true → option_map f o ≡ find ref_cmp q ps → is_some o ≡ is_some (get (versions_in c ps) q)
placed_in f o c ps q h at = some_mapped f (versions_at c) o ∙ ap (λ p. is_some (option_map (versions_at c) p)) at ∙ sym (ap is_some (get_in c ps q h))

pub not_placed : (c : State) (ps : Pairs) (q : Reference) → is_sorted ref_cmp ps ≡ true → None ≡ find ref_cmp q ps → finmap.contains_key (versions_in c ps) q ≡ true → ⊥
not_placed c ps q h at is = let none = ap is_some (none_in c ps q h at) in absurd (cc)

pub pushed : (c d : State) (ps : Pairs) (now id stamp : ℕ) (k : Reference) (x : Option (List ℕ)) → IsTied ps c now → Some id ≡ find ref_cmp k ps → Updates c d id (Some ((stamp, x) ∷ versions_at c id)) → versions_in d ps ≡ with_version stamp (k, x) (versions_in c ps)
pushed c d ps now id stamp k x tied at updates =
    versions_update c d ps now id k ((stamp, x) ∷ versions_at c id) tied (sym at) updates
    ∙ ap (λ vs. finmap.insert (versions_in c ps) k ((stamp, x) ∷ vs)) (sym (row_in c ps k id tied.sorted at))

-- the stamps of each reference fall
pub falls_in : (c : State) (ps : Pairs) (now : ℕ) → IsTied ps c now → (q : Reference) → IsFalling (versions_of (versions_in c ps) q)
falls_in c ps now tied q = subst (λ o. IsFalling (listed o)) (sym (get_in c ps q tied.sorted)) (by_found (find ref_cmp q ps) refl)
  where
    by_found : (o : Option ℕ) → find ref_cmp q ps ≡ o → IsFalling (listed (option_map (versions_at c) o))
    by_found None e = tt
    by_found (Some id) e = tied.falls q id e

-- ---- a key taken out

find_without : (k : Reference) (ps : Pairs) (q : Reference) → find ref_cmp q (without ref_cmp k ps) ≡ cond (eq_by_cmp ref_cmp q k) None (find ref_cmp q ps)
find_without k ps q =
    find-where_key ref_cmp (λ x. not (eq_by_cmp ref_cmp k x)) q (λ x e. ap (λ y. not (eq_by_cmp ref_cmp k y)) (sym (ref_cmp-IsAntisymmetric q x e))) ps
    ∙ by_tie (eq_by_cmp ref_cmp k q) ∙ ap (λ b. cond b None (find ref_cmp q ps)) (let laws = eq_by_cmp_equiv ref_cmp_total in laws.symm k q)
  where
    by_tie : (t : Bool) → cond (not t) (find ref_cmp q ps) None ≡ cond t None (find ref_cmp q ps)
    by_tie true = refl
    by_tie false = refl

without_cases : (k : Reference) (ps : Pairs) (q : Reference) (i : ℕ) → find ref_cmp q (without ref_cmp k ps) ≡ Some i → (eq_by_cmp ref_cmp q k ≡ false) × (find ref_cmp q ps ≡ Some i)
without_cases k ps q i at = by_tie (eq_by_cmp ref_cmp q k) refl (sym (find_without k ps q) ∙ at)
  where
    by_tie : (t : Bool) → eq_by_cmp ref_cmp q k ≡ t → cond t None (find ref_cmp q ps) ≡ Some i → (eq_by_cmp ref_cmp q k ≡ false) × (find ref_cmp q ps ≡ Some i)
    by_tie true t e = absurd (cc)
    by_tie false t e = (t, e)

-- each other key has another id
not_taken : (c : State) (ps : Pairs) (now : ℕ) (k q : Reference) (id i : ℕ) → IsTied ps c now → find ref_cmp k ps ≡ Some id → eq_by_cmp ref_cmp q k ≡ false → find ref_cmp q ps ≡ Some i → i ≢ id
not_taken c ps now k q id i tied at t there same = let tie = tied.apart q k id (there ∙ ap Some same) at in absurd (cc)

pub tied_without : (c d : State) (ps : Pairs) (now id : ℕ) (k : Reference) → IsTied ps c now → Some id ≡ find ref_cmp k ps → Updates c d id None → IsTied (without ref_cmp k ps) d now
tied_without c d ps now id k tied at updates = record {
  sorted = true_of _ (is_sorted-where_key ref_cmp (λ x. not (eq_by_cmp ref_cmp k x)) ps (passes _ tied.sorted));
  opened = λ q i e. let w = without_cases k ps q i e in subst IsSome (sym (updates.others i (not_taken c ps now k q id i tied (sym at) w.0 w.1))) (tied.opened q i w.1);
  apart = λ q r i e f. let v = without_cases k ps q i e in let w = without_cases k ps r i f in tied.apart q r i v.1 w.1;
  settled = λ q i e. let w = without_cases k ps q i e in subst (λ x. IsAbove (suc now) (listed x)) (sym (updates.others i (not_taken c ps now k q id i tied (sym at) w.0 w.1))) (tied.settled q i w.1);
  fresh = λ z q i e. let w = without_cases k ps q i e in ap listed (updates.others i (not_taken c ps now k q id i tied (sym at) w.0 w.1)) ∙ tied.fresh z q i w.1;
  falls = λ q i e. let w = without_cases k ps q i e in subst (λ x. IsFalling (listed x)) (sym (updates.others i (not_taken c ps now k q id i tied (sym at) w.0 w.1))) (tied.falls q i w.1);
  counted =
      let none : slot_count {A = Row} None ≡ 0 = refl in
      let law = open_count_updated c d id None updates in
      let was : slot_count (chain_at c id) ≡ 1 = ap (λ b. cond b 1 0) (tied.opened k id (sym at)) in
      let long = length_without ref_cmp ref_cmp_total k ps (passes _ tied.sorted) in
      let there : ◌≡◌ {A = ℕ} (cond (is_some (find ref_cmp k ps)) 1 0) 1 = ap (λ (o : Option ℕ). cond (is_some o) 1 0) (sym at) in
      let before = tied.counted in
      omega (arith, law, was, none, long, there, before);
}

pub versions_without : (c d : State) (ps : Pairs) (now id : ℕ) (k : Reference) → IsTied ps c now → Some id ≡ find ref_cmp k ps → Updates c d id None → versions_in d (without ref_cmp k ps) ≡ finmap.remove (versions_in c ps) k
versions_without c d ps now id k tied at updates =
    let left = tied_without c d ps now id k tied at updates in
    same_get _ _ (λ q.
    get_in d (without ref_cmp k ps) q left.sorted
    ∙ ap (option_map (versions_at d)) (find_without k ps q)
    ∙ by_tie q (eq_by_cmp ref_cmp q k) refl (find ref_cmp q ps) refl
    ∙ ap (cond (eq_by_cmp ref_cmp q k) None) (sym (get_in c ps q tied.sorted))
    ∙ sym (get-remove ref_cmp_total (versions_in c ps) k q))
  where
    by_tie : (q : Reference) (t : Bool) → eq_by_cmp ref_cmp q k ≡ t → (o : Option ℕ) → find ref_cmp q ps ≡ o → option_map (versions_at d) (cond t None o) ≡ cond t None (option_map (versions_at c) o)
    by_tie q true t o e = refl
    by_tie q false t None e = refl
    by_tie q false t (Some i) e = ap (λ x. Some (listed x)) (updates.others i (not_taken c ps now k q id i tied (sym at) t e))

-- the rows of the others are as before
pub rows_without : (c d : State) (ps : Pairs) (now id : ℕ) (k : Reference) → IsTied ps c now → Some id ≡ find ref_cmp k ps → Updates c d id None → rows d (without ref_cmp k ps) ≡ rows c (without ref_cmp k ps)
rows_without c d ps now id k tied at updates =
    let sorted = (tied_without c d ps now id k tied at updates).sorted in
    let left = without ref_cmp k ps in
    sym (entries_in d left sorted)
    ∙ ap finmap.entries (same_get (versions_in d left) (versions_in c left) (λ q. get_in d left q sorted ∙ by_found q (find ref_cmp q left) refl ∙ sym (get_in c left q sorted)))
    ∙ entries_in c left sorted
  where
    by_found : (q : Reference) (o : Option ℕ) → find ref_cmp q (without ref_cmp k ps) ≡ o → option_map (versions_at d) o ≡ option_map (versions_at c) o
    by_found q None e = refl
    by_found q (Some i) e = let w = without_cases k ps q i e in ap (λ x. Some (listed x)) (updates.others i (not_taken c ps now k q id i tied (sym at) w.0 w.1))

-- ---- a chain that is cut

pub cut_row : (c d : State) (ps : Pairs) (now id horizon : ℕ) (k : Reference) → IsTied ps c now → Some id ≡ find ref_cmp k ps → Updates c d id (Some (left_after horizon (versions_at c id))) → versions_in d ps ≡ finmap.insert (versions_in c ps) k (left_after horizon (versions_of (versions_in c ps) k))
cut_row c d ps now id horizon k tied at updates =
    versions_update c d ps now id k (left_after horizon (versions_at c id)) tied (sym at) updates
    ∙ ap (λ vs. finmap.insert (versions_in c ps) k (left_after horizon vs)) (sym (row_in c ps k id tied.sorted at))

pub tied_cut : (c d : State) (ps : Pairs) (now id horizon : ℕ) (k : Reference) → IsTied ps c now → Some id ≡ find ref_cmp k ps → Updates c d id (Some (left_after horizon (versions_at c id))) → IsTied ps d now
tied_cut c d ps now id horizon k tied at updates =
    tied_update c d ps now id k (left_after horizon (versions_at c id)) tied (sym at) updates
    (IsAbove-left_after horizon (suc now) (versions_at c id) (tied.settled k id (sym at))) (λ z. ap (left_after horizon) (tied.fresh z k id (sym at))) (IsFalling-left_after horizon (versions_at c id) (tied.falls k id (sym at)))

pub no_versions : (vs : Row) → None ≡ newest_of vs → vs ≡ []
no_versions [] e = refl
no_versions (v ∷ vs) e = absurd (cc)

some_versions : (n : ℕ) (vs : Row) → Some n ≡ newest_of vs → false ≡ is_bare (Some vs)
some_versions n [] e = absurd (cc)
some_versions n (v ∷ vs) e = refl

pub bare_in : (c : State) (ps : Pairs) (k : Reference) (id : ℕ) → is_sorted ref_cmp ps ≡ true → Some id ≡ find ref_cmp k ps → None ≡ newest_of (versions_at c id) → get (versions_in c ps) k ≡ Some []
bare_in c ps k id h at none = get_at c ps k id h (sym at) ∙ ap Some (no_versions (versions_at c id) none)

pub not_bare_in : (c : State) (ps : Pairs) (k : Reference) (id n : ℕ) → is_sorted ref_cmp ps ≡ true → Some id ≡ find ref_cmp k ps → Some n ≡ newest_of (versions_at c id) → false ≡ is_bare (get (versions_in c ps) k)
not_bare_in c ps k id n h at some = some_versions n (versions_at c id) some ∙ ap is_bare (sym (get_at c ps k id h (sym at)))

pub no_bare_in : (c : State) (ps : Pairs) (k : Reference) → is_sorted ref_cmp ps ≡ true → None ≡ find ref_cmp k ps → false ≡ is_bare (get (versions_in c ps) k)
no_bare_in c ps k h at = ap is_bare (sym (none_in c ps k h at))

-- what holds of the state after success and of that after a refusal
pub either_way : {T E S : Type 0} (r : Result T E) (P : S → Type 0) (new a b : S) → OnOk r (new ≡ a) → OnErr r (new ≡ b) → P a → P b → P new
either_way (Ok x) P new a b ok err pa pb = subst P (sym ok) pa
either_way (Err e) P new a b ok err pa pb = subst P (sym err) pb

no_id : (c : State) (o : Option ℕ) → option_map (versions_at c) o ≡ None → o ≡ None
no_id c None e = refl
no_id c (Some id) e = absurd (cc)

-- a key that isn't placed is not in the tree
pub not_in : (c : State) (ps : Pairs) (q : Reference) → is_sorted ref_cmp ps ≡ true → get (versions_in c ps) q ≡ None → find ref_cmp q ps ≡ None
not_in c ps q h none = no_id c (find ref_cmp q ps) (sym (get_in c ps q h) ∙ none)
