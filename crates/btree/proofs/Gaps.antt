-- The bounds that separators set: between those next to a kid its pairs stand, and a key that goes there goes nowhere else.
use Rattle.std.proofs.Common.{◌≡◌, inr, ℕ, zero, suc, ◌+◌, ◌-◌, ◌<◌, ◌≤◌, Bool, true, false, Option, Some, None, IfSome, IsSome, List, [], ◌∷◌, ◌++◌, length, take, drop, slice_set, get_or, refl, sym, ap, subst, ◌∙◌, arith, length-append}
use Rattle.std.specs.Option.{option_or}
use Rattle.std.specs.List.{slice_get}
use Rattle.std.specs.Cmp.{IsTotalOrder}
use Rattle.std.specs.Ordering.{ordering_reverse}
use Rattle.std.specs.declared.cmp.Ordering.{Ordering}
use Rattle.std.specs.declared.cmp.Ordering.TheVariants.{Less}
use Rattle.std.specs.FinMap.Entries.{find}
use Rattle.btree.specs.Order.{Each, Ascends, IsBefore, IsAfter, last_of}
use Rattle.btree.specs.Branch.{Branch}
use Rattle.btree.specs.Parts.{IsFrom, IsWithin, Rises, flat, AreParted}
use Rattle.btree.specs.Gap.{IsPutIn}
use Rattle.btree.specs.Rows.{branch_of, IsKid, IsInner, IsNode}
use Rattle.btree.proofs.Order.{each_map, each_front, each_back, last_taken}
use Rattle.btree.proofs.Parting.{from_under, from_down, rises_of, flat_cut, each_flat_at}
use Rattle.btree.proofs.Shapes.{kids_some}
use Rattle.btree.proofs.Places.{all_before, all_after}
use Rattle.btree.proofs.Leaves.{each_at_end, last_kept}
use Rattle.btree.proofs.Nodes.{inner, inner_pairs, inner_low, kid_found, kid_put, kid_put_pairs, same_here, set_same}

pub last_separator : {A : Type 0} (i : ℕ) (xs : List A) (d : A) (o : Option A) → 0 < i → i ≤ length xs → Some (get_or xs (i - 1) d) ≡ option_or (last_of (take i xs)) o
last_separator zero xs d o p q = absurd (omega arith)
last_separator (suc i) xs d o p q =
    let less : suc i - 1 ≡ i = omega arith in
    ap (λ n. Some (get_or xs n d)) less ∙ ap (λ l. option_or l o) (sym (last_taken xs i d (omega arith)))

module _ {K : Type 0} (R : K → K → Ordering) (o : IsTotalOrder R) (key : K) where
  last_from : (ss : List K) → Rises R ss → IfSome (last_of ss) (λ s. IsFrom R s key) → Each (λ s. IsFrom R s key) ss
  last_from [] r h = tt
  last_from (s ∷ []) r h = (h, tt)
  last_from (s ∷ t ∷ ss) r h =
      let u = last_from (t ∷ ss) r.1 (subst (λ l. IfSome l (λ s. IsFrom R s key)) (last_kept (last_of ss) t s) h) in
      (from_down R o s t key r.0.0 u.0, u)

  rises_front : (i : ℕ) (ss : List K) → Rises R ss → Rises R (take i ss)
  rises_front zero ss r = tt
  rises_front (suc i) [] r = tt
  rises_front (suc i) (s ∷ ss) r = ((each_at_end (λ t. R s t ≡ Less) i ss r.0).0, rises_front i ss r.1)

  either : (a b : Option K) (P : K → Type 0) → IfSome (option_or a b) P → IfSome a P
  either None b P h = tt
  either (Some x) b P h = h

  -- the separators before a kid, told by the one next before it
  pub lo_of : (i : ℕ) (ss : List K) (low : Option K) → Rises R ss → IfSome (option_or (last_of (take i ss)) low) (λ s. IsFrom R s key) → Each (λ s. IsFrom R s key) (take i ss)
  lo_of i ss low r h = last_from (take i ss) (rises_front i ss r) (either (last_of (take i ss)) low (λ s. IsFrom R s key) h)

  -- and those after it
  pub hi_of : (i : ℕ) (ss : List K) (high : Option K) → Rises R ss → IfSome (option_or (slice_get ss i) high) (λ s. R key s ≡ Less) → Each (λ s. R key s ≡ Less) (drop i ss)
  hi_of i [] high r h = nothing i
    where
      nothing : (i : ℕ) → Each (λ s. R key s ≡ Less) (drop i [])
      nothing zero = tt
      nothing (suc i) = tt
  hi_of zero (s ∷ ss) high r h = (h, each_map (λ t k. o.trans key s t h k) ss r.0)
  hi_of (suc i) (s ∷ ss) high r h = hi_of i ss high r.1 h

both_ways : {K : Type 0} (a b : Option K) (P : K → Type 0) → IfSome a P → IfSome b P → IfSome (option_or a b) P
both_ways None b P h g = g
both_ways (Some x) b P h g = h

module _ {K V : Type 0} (R : K → K → Ordering) (o : IsTotalOrder R) where
  -- a kid's pairs stand between the separators next to it
  pub kid_from : (i : ℕ) (ss : List K) (ks : List (Branch K V)) (d : Branch K V) → i ≤ length ss → i < length ks → AreParted R ss ks → Each (λ (e : K × V). IfSome (last_of (take i ss)) (λ s. IsFrom R s e.0)) (get_or ks i d).pairs
  kid_from zero ss ks d p q h = trivial (get_or ks 0 d).pairs
    where
      trivial : (xs : List (K × V)) → Each (λ (e : K × V). Unit {0}) xs
      trivial [] = tt
      trivial (x ∷ xs) = (tt, trivial xs)
  kid_from (suc i) [] ks d p q h = absurd (omega arith)
  kid_from (suc i) (s ∷ ss) [] d p q h = absurd (omega arith)
  kid_from (suc zero) (s ∷ ss) (k ∷ ks) d p q h = each_flat_at (λ (e : K × V). IsFrom R s e.0) 0 ks d (omega arith) h.0.1
  kid_from (suc (suc i)) (s ∷ []) (k ∷ ks) d p q h = absurd (omega arith)
  kid_from (suc (suc i)) (s ∷ t ∷ ss) (k ∷ ks) d p q h =
      each_map (λ e. subst (λ l. IfSome l (λ s. IsFrom R s e.0)) (sym (last_kept (last_of (take i ss)) t s))) (get_or ks (suc i) d).pairs (kid_from (suc i) (t ∷ ss) ks d (omega arith) (omega arith) h.2)

  pub kid_under : (i : ℕ) (ss : List K) (ks : List (Branch K V)) (d : Branch K V) → i < length ks → AreParted R ss ks → Each (λ (e : K × V). IfSome (slice_get ss i) (λ s. R e.0 s ≡ Less)) (get_or ks i d).pairs
  kid_under i [] ks d q h = trivial (get_or ks i d).pairs
    where
      trivial : (xs : List (K × V)) → Each (λ (e : K × V). Unit {0}) xs
      trivial [] = tt
      trivial (x ∷ xs) = (tt, trivial xs)
  kid_under i (s ∷ ss) [] d q h = absurd (omega arith)
  kid_under zero (s ∷ ss) (k ∷ ks) d q h = h.0.0
  kid_under (suc i) (s ∷ ss) (k ∷ ks) d q h = kid_under i ss ks d (omega arith) h.2

  pub within_down : (i : ℕ) (ss : List K) (ks : List (Branch K V)) (d : Branch K V) (low high : Option K) → i ≤ length ss → i < length ks → AreParted R ss ks → Each (λ (e : K × V). IsWithin R low high e.0) (flat ks)
      → Each (λ (e : K × V). IsWithin R (option_or (last_of (take i ss)) low) (option_or (slice_get ss i) high) e.0) (get_or ks i d).pairs
  within_down i ss ks d low high p q h inside =
      join (get_or ks i d).pairs (kid_from i ss ks d p q h) (kid_under i ss ks d q h) (each_flat_at (λ (e : K × V). IsWithin R low high e.0) i ks d q inside)
    where
      join : (xs : List (K × V)) → Each (λ (e : K × V). IfSome (last_of (take i ss)) (λ s. IsFrom R s e.0)) xs → Each (λ (e : K × V). IfSome (slice_get ss i) (λ s. R e.0 s ≡ Less)) xs → Each (λ (e : K × V). IsWithin R low high e.0) xs
          → Each (λ (e : K × V). IsWithin R (option_or (last_of (take i ss)) low) (option_or (slice_get ss i) high) e.0) xs
      join [] f u w = tt
      join (x ∷ xs) f u w = ((both_ways (last_of (take i ss)) low (λ s. IsFrom R s x.0) f.0 w.0.0, both_ways (slice_get ss i) high (λ s. R x.0 s ≡ Less) u.0 w.0.1), join xs f.1 u.1 w.1)

module _ {K V : Type 0} (R : K → K → Ordering) (o : IsTotalOrder R) (ss : List K) (ks : List (Branch K V)) (inner : IsInner R ss ks) where
  rises : Rises R ss
  rises = let f = inner.fits in rises_of R ss ks (omega arith) inner.parted

  passed_low : (low : Option K) (key : K) (xs : List (K × V)) → 0 < length xs → Each (IsBefore R key) xs → Each (λ (e : K × V). IfSome low (λ s. IsFrom R s e.0)) xs → IfSome low (λ s. IsFrom R s key)
  passed_low None key xs p b w = tt
  passed_low (Some s) key [] p b w = absurd (omega arith)
  passed_low (Some s) key (x ∷ xs) p b w = inr (o.antisymm key s ∙ ap ordering_reverse (from_under R o s x.0 key w.0 (o.antisymm x.0 key ∙ ap ordering_reverse b.0)))

  passed_high : (high : Option K) (key : K) (xs : List (K × V)) → 0 < length xs → Each (IsAfter R key) xs → Each (λ (e : K × V). IfSome high (λ s. R e.0 s ≡ Less)) xs → IfSome high (λ s. R key s ≡ Less)
  passed_high None key xs p b w = tt
  passed_high (Some s) key [] p b w = absurd (omega arith)
  passed_high (Some s) key (x ∷ xs) p b w = o.trans key x.0 s b.0 w.0

  some_before : (i : ℕ) (gs : List (Branch K V)) → Each (λ (k : Branch K V). 0 < length k.pairs) gs → 0 < i → i ≤ length gs → 0 < length (flat (take i gs))
  some_before zero gs z p q = absurd (omega arith)
  some_before (suc i) [] z p q = absurd (omega arith)
  some_before (suc i) (g ∷ gs) z p q = let n = z.0 in omega (arith, n, length-append g.pairs (flat (take i gs)))

  some_after : (i : ℕ) (gs : List (Branch K V)) → Each (λ (k : Branch K V). 0 < length k.pairs) gs → i < length gs → 0 < length (flat (drop i gs))
  some_after i [] z p = absurd (omega arith)
  some_after zero (g ∷ gs) z p = let n = z.0 in omega (arith, n, length-append g.pairs (flat gs))
  some_after (suc i) (g ∷ gs) z p = some_after i gs z.1 (omega arith)

  -- a key between the separators next to a kid stands between those next to the node
  module _ (key : K) (i : ℕ) (low high : Option K) (p : i ≤ length ss) (sorted : Ascends R (flat ks)) (inside : Each (λ (e : K × V). IsWithin R low high e.0) (flat ks)) (within : IsWithin R (option_or (last_of (take i ss)) low) (option_or (slice_get ss i) high) key) where
    pub lo : Each (λ s. IsFrom R s key) (take i ss)
    lo = lo_of R o key i ss low rises within.0

    pub hi : Each (λ s. R key s ≡ Less) (drop i ss)
    hi = hi_of R o key i ss high rises within.1

    in_kids : i < length ks
    in_kids = let f = inner.fits in omega arith

    fronts : (d : Branch K V) → Each (λ (e : K × V). IsWithin R low high e.0) (flat (take i ks)) × Each (λ (e : K × V). IsWithin R low high e.0) (flat (drop (suc i) ks))
    fronts d =
        let all = subst (Each (λ (e : K × V). IsWithin R low high e.0)) (flat_cut i ks d in_kids) inside in (
          each_front (λ (e : K × V). IsWithin R low high e.0) (flat (take i ks)) ((get_or ks i d).pairs ++ flat (drop (suc i) ks)) all,
          each_back (λ (e : K × V). IsWithin R low high e.0) (get_or ks i d).pairs (flat (drop (suc i) ks)) (each_back (λ (e : K × V). IsWithin R low high e.0) (flat (take i ks)) ((get_or ks i d).pairs ++ flat (drop (suc i) ks)) all),
        )

    up_low : (d : Branch K V) → (n : ℕ) → n ≡ i → IfSome low (λ s. IsFrom R s key)
    up_low d zero e = subst (λ m. IfSome (option_or (last_of (take m ss)) low) (λ s. IsFrom R s key)) (sym e) within.0
    up_low d (suc n) e =
        passed_low low key (flat (take i ks)) (some_before i ks (kids_some inner.level ks inner.kids) (omega arith) (let q = in_kids in omega arith)) (all_before R o ss ks inner key i d p in_kids lo hi)
        (each_map (λ x w. w.0) (flat (take i ks)) (fronts d).0)

    up_high : (d : Branch K V) → (n : ℕ) → n + i ≡ length ss → IfSome high (λ s. R key s ≡ Less)
    up_high d zero e = subst (λ l. IfSome (option_or l high) (λ s. R key s ≡ Less)) (past i ss (omega arith)) within.1
      where
        past : {A : Type 0} (i : ℕ) (xs : List A) → length xs ≤ i → slice_get xs i ≡ None
        past i [] q = refl
        past zero (x ∷ xs) q = absurd (omega arith)
        past (suc i) (x ∷ xs) q = past i xs (omega arith)
    up_high d (suc n) e =
        passed_high high key (flat (drop (suc i) ks)) (some_after (suc i) ks (kids_some inner.level ks inner.kids) (let f = inner.fits in omega arith)) (all_after R o ss ks inner key i d p in_kids lo hi)
        (each_map (λ x w. w.1) (flat (drop (suc i) ks)) (fronts d).1)

    pub within_up : (d : Branch K V) → IsWithin R low high key
    within_up d = (up_low d i refl, up_high d (length ss - i) (omega arith))

-- ---- a pair put into a kid of b, or not

module _ {K V : Type 0} (R : K → K → Ordering) (o : IsTotalOrder R) (b : Branch K V) (es : List (K × V)) (ss : List K) (ks : List (Branch K V)) (is : branch_of es ss ks ≡ b) (node : IsNode R es ss ks) (some : length ks ≡ 0 → ⊥) (i : ℕ) (d k : Branch K V) (low high : Option K) (p : i ≤ length ss)
    (sorted : Ascends R b.pairs) (inside : Each (λ (e : K × V). IsWithin R low high e.0) b.pairs) where
  flat_inside : Each (λ (e : K × V). IsWithin R low high e.0) (flat ks)
  flat_inside = subst (Each (λ (e : K × V). IsWithin R low high e.0)) (inner_pairs R b es ss ks is node some) inside

  flat_sorted : Ascends R (flat ks)
  flat_sorted = subst (Ascends R) (inner_pairs R b es ss ks is node some) sorted

  pub kid_inside : Each (λ (e : K × V). IsWithin R (option_or (last_of (take i ss)) low) (option_or (slice_get ss i) high) e.0) (get_or ks i d).pairs
  kid_inside = let s = inner R b es ss ks is node some in within_down R o i ss ks d low high p (inner_low R b es ss ks is node some i p) s.parted flat_inside

  module _ (key : K) (within : IsWithin R (option_or (last_of (take i ss)) low) (option_or (slice_get ss i) high) key) where
    abbrev key_lo : Each (λ s. IsFrom R s key) (take i ss)
    key_lo = lo R o ss ks (inner R b es ss ks is node some) key i low high p flat_sorted flat_inside within

    abbrev key_hi : Each (λ s. R key s ≡ Less) (drop i ss)
    key_hi = hi R o ss ks (inner R b es ss ks is node some) key i low high p flat_sorted flat_inside within

    pub key_within : IsWithin R low high key
    key_within = within_up R o ss ks (inner R b es ss ks is node some) key i low high p flat_sorted flat_inside within d

    pub key_missed : find R key (get_or ks i d).pairs ≡ None → find R key b.pairs ≡ None
    key_missed e = kid_found R b es ss ks is node some o key i d p key_lo key_hi ∙ e

  pub put_case : (t : Bool) (pair : Option (K × V)) → (t ≡ true → IsSome pair) → (t ≡ true → IfSome pair (λ q. IsPutIn R q.0 q.1 (get_or ks i d).pairs k.pairs)) → (t ≡ true → IfSome pair (λ q. IsWithin R (option_or (last_of (take i ss)) low) (option_or (slice_get ss i) high) q.0)) → (t ≡ false → k ≡ get_or ks i d)
      → IsKid (get_or ks i d).count (get_or ks i d).height k → b.count ≤ 32 → IsInner R ss (slice_set ks i k) × IsKid b.count b.height (branch_of es ss (slice_set ks i k))
  put_case true None some_pair put_in within kept kid most = absurd (let clash : false ≡ true = some_pair refl in cc)
  put_case true (Some q) some_pair put_in within kept kid most =
      kid_put R b es ss ks is node some o q.0 q.1 i d k p (key_lo q.0 (within refl)) (key_hi q.0 (within refl)) kid (put_in refl).1 most
  put_case false pair some_pair put_in within kept kid most =
      let same : slice_set ks i k ≡ ks = ap (λ x. slice_set ks i x) (kept refl) ∙ set_same ks i d (inner_low R b es ss ks is node some i p) in
      (subst (IsInner R ss) (sym same) (inner R b es ss ks is node some), subst (λ x. IsKid b.count b.height (branch_of es ss x)) (sym same) (subst (IsKid b.count b.height) (sym is) (same_here R b es ss ks is node most)))

  pub put_up : (q : K × V) → IsKid (get_or ks i d).count (get_or ks i d).height k → IsPutIn R q.0 q.1 (get_or ks i d).pairs k.pairs → IsWithin R (option_or (last_of (take i ss)) low) (option_or (slice_get ss i) high) q.0 → IsPutIn R q.0 q.1 b.pairs (branch_of es ss (slice_set ks i k)).pairs
  put_up q kid put_in within =
      (key_missed q.0 within put_in.0, kid_put_pairs R b es ss ks is node some o q.0 q.1 i d k p (key_lo q.0 within) (key_hi q.0 within) kid put_in.1)
