-- A node of given rows: what it is as a leaf, and as an inner node.
use Rattle.std.proofs.Common.{◌≡◌, inl, inr, ℕ, zero, suc, ◌+◌, ◌<◌, ◌≤◌, Option, None, Ok, Err, IfOk, OnErr, List, [], ◌∷◌, ◌++◌, length, take, drop, slice_set, get_or, refl, sym, ap, subst, ◌∙◌, arith, append-nil}
use Rattle.std.specs.Prelude.{Result}
use Rattle.std.specs.List.{insert, remove}
use Rattle.std.proofs.lemmas.List.Edits.{length-remove}
use Rattle.std.specs.Cmp.{IsTotalOrder}
use Rattle.std.specs.declared.cmp.Ordering.{Ordering}
use Rattle.std.specs.declared.cmp.Ordering.TheVariants.{Less}
use Rattle.std.specs.FinMap.Entries.{find, put}
use Rattle.btree.specs.Order.{Each, Ascends}
use Rattle.btree.specs.Branch.{Branch}
use Rattle.btree.specs.Parts.{IsFrom, Parts, Rises, flat}
use Rattle.btree.specs.Rows.{height_of, branch_of, IsKid, IsFull, IsInner, IsNode, HasBecome, HasShrunk, with_separator, with_kid}
use Rattle.btree.proofs.Order.{each_append}
use Rattle.btree.proofs.Parting.{rises_of, each_flat_at}
use Rattle.btree.proofs.Shapes.{no_kids, leaf_is, inner_is, leaf_pairs, leaf_count, kid_at, below_kids, inner_kid, leaf_kid, leaf_full, node_full}
use Rattle.btree.proofs.Places.{kid_sorted, found_below}
use Rattle.btree.proofs.Growth.{grown_inner, grown_pairs, become_from}
use Rattle.btree.proofs.Leaves.{insert_removed}

pub set_same : {A : Type 0} (xs : List A) (i : ℕ) (d : A) → i < length xs → slice_set xs i (get_or xs i d) ≡ xs
set_same [] i d p = absurd (omega arith)
set_same (x ∷ xs) zero d p = refl
set_same (x ∷ xs) (suc i) d p = ap (λ ys. x ∷ ys) (set_same xs i d (omega arith))

module _ {K V : Type 0} (R : K → K → Ordering) (b : Branch K V) (es : List (K × V)) (ss : List K) (ks : List (Branch K V)) (is : branch_of es ss ks ≡ b) (node : IsNode R es ss ks) where
  -- ---- a leaf

  module _ (none : length ks ≡ 0) where
    abbrev leaf : branch_of es [] [] ≡ b
    leaf = (leaf_is R b es ss ks is node (no_kids ks none)).1

    pub leaf_row : b.pairs ≡ es
    leaf_row = leaf_pairs b es leaf

    pub leaf_size : b.count ≡ length es
    leaf_size = leaf_count b es leaf

    pub leaf_height : b.height ≡ 0
    leaf_height = sym (ap (λ x. x.height) leaf)

    -- another row in its place
    pub leaf_made : (fs : List (K × V)) → branch_of fs ss ks ≡ branch_of fs [] []
    leaf_made fs = ap (λ x. branch_of fs x ks) (leaf_is R b es ss ks is node (no_kids ks none)).0 ∙ ap (λ x. branch_of fs [] x) (no_kids ks none)

    pub leaf_node : (fs : List (K × V)) → IsNode R fs ss ks
    leaf_node fs = inl ((leaf_is R b es ss ks is node (no_kids ks none)).0, no_kids ks none)

    pub leaf_sorted : Ascends R b.pairs → Ascends R es
    leaf_sorted s = subst (Ascends R) leaf_row s

    pub leaf_each : (P : K × V → Type 0) → Each P b.pairs → Each P es
    leaf_each P h = subst (Each P) leaf_row h

  -- ---- an inner node

  module _ (some : length ks ≡ 0 → ⊥) where
    pub bare : es ≡ []
    bare = (inner_is R b es ss ks is node some).0

    pub inner : IsInner R ss ks
    inner = (inner_is R b es ss ks is node some).2

    abbrev as_inner : branch_of [] ss ks ≡ b
    as_inner = (inner_is R b es ss ks is node some).1

    pub inner_pairs : b.pairs ≡ flat ks
    inner_pairs = sym (ap (λ x. x.pairs) as_inner)

    pub inner_size : b.count ≡ length ss
    inner_size = let n = ap (λ x. x.count) as_inner in omega arith

    pub inner_levels : b.height ≡ height_of ks
    inner_levels = sym (ap (λ x. x.height) as_inner)

    -- other rows in their place
    pub inner_made : (ts : List K) (gs : List (Branch K V)) → branch_of es ts gs ≡ branch_of [] ts gs
    inner_made ts gs = ap (λ x. branch_of x ts gs) bare

    pub inner_node : (ts : List K) (gs : List (Branch K V)) → IsInner R ts gs → IsNode R es ts gs
    inner_node ts gs s = inr (bare, s)

    pub inner_rises : Rises R ss
    inner_rises = let f = inner.fits in rises_of R ss ks (omega arith) inner.parted

    pub inner_low : (i : ℕ) → i ≤ length ss → i < length ks
    inner_low i p = below_kids R i ss ks inner p

    pub inner_level : (i : ℕ) (d : Branch K V) → i < length ks → suc (get_or ks i d).height ≡ b.height
    inner_level i d p = (kid_at R i ss ks d inner p).0 ∙ sym inner_levels

    pub inner_kid_at : (i : ℕ) (d : Branch K V) → i < length ks → IsKid 16 (get_or ks i d).height (get_or ks i d)
    inner_kid_at i d p = (kid_at R i ss ks d inner p).1

    pub inner_sorted : Ascends R b.pairs → Ascends R (flat ks)
    inner_sorted s = subst (Ascends R) inner_pairs s

    pub kid_ascends : IsTotalOrder R → (i : ℕ) (d : Branch K V) → i < length ks → Ascends R b.pairs → Ascends R (get_or ks i d).pairs
    kid_ascends o i d p s = kid_sorted R o ss ks inner i d p (inner_sorted s)

    pub kid_each : (P : K × V → Type 0) (i : ℕ) (d : Branch K V) → i < length ks → Each P b.pairs → Each P (get_or ks i d).pairs
    kid_each P i d p h = each_flat_at P i ks d p (subst (Each P) inner_pairs h)

    pub kid_found : IsTotalOrder R → (key : K) (i : ℕ) (d : Branch K V) → i ≤ length ss → Each (λ s. IsFrom R s key) (take i ss) → Each (λ s. R key s ≡ Less) (drop i ss) → find R key b.pairs ≡ find R key (get_or ks i d).pairs
    kid_found o key i d p lo hi = ap (find R key) inner_pairs ∙ found_below R o ss ks inner key i d p (inner_low i p) lo hi

no_height : {K V : Type 0} (ks : List (Branch K V)) → height_of ks ≡ 0 → length ks ≡ 0
no_height [] e = refl
no_height (k ∷ ks) e = absurd (omega arith)

pub leaf_none : {K V : Type 0} (b : Branch K V) (es : List (K × V)) (ss : List K) (ks : List (Branch K V)) → branch_of es ss ks ≡ b → b.height ≡ 0 → length ks ≡ 0
leaf_none b es ss ks is low = no_height ks (ap (λ x. x.height) is ∙ low)

same_branch : {K V : Type 0} (h : ℕ) (z : List ℕ) (p q : List (K × V)) (m n : ℕ) → p ≡ q → m ≡ n → ◌≡◌ {A = Branch K V} (record { pairs = p; height = h; count = m; sizes = z }) (record { pairs = q; height = h; count = n; sizes = z })
same_branch h z p q m n e f = ap (λ x. record { pairs = x; height = h; count = m; sizes = z }) e ∙ ap (λ x. record { pairs = q; height = h; count = x; sizes = z }) f

-- two nodes, the second above the first and what stands beside it
pub risen : {K V : Type 0} (R : K → K → Ordering) (h : ℕ) (lower upper : Branch K V) (m : K) → IsKid 16 h lower → IsKid 16 h upper → Parts R m lower.pairs upper.pairs → IsInner R (m ∷ []) (lower ∷ upper ∷ [])
risen {K} {V} R h lower upper m p q parts = record {
  level = h;
  fits = refl;
  kids = (p, (q, tt));
  parted = ((parts.0, each_append (λ (e : K × V). IsFrom R m e.0) upper.pairs [] parts.1 tt), tt, tt);
}

module _ {K V : Type 0} (R : K → K → Ordering) (b : Branch K V) (es : List (K × V)) (ss : List K) (ks : List (Branch K V)) (is : branch_of es ss ks ≡ b) (node : IsNode R es ss ks) (none : length ks ≡ 0) where
  -- a leaf from which a pair was taken
  pub leaf_taken : (i : ℕ) (p : K × V) (fs : List (K × V)) → i < length es → p ≡ get_or es i p → fs ≡ remove es i → (i ≤ (branch_of fs ss ks).count) × (b ≡ record { pairs = insert (branch_of fs ss ks).pairs i p; height = (branch_of fs ss ks).height; count = (branch_of fs ss ks).count + 1; sizes = (branch_of fs ss ks).sizes })
  leaf_taken i p fs q e f =
      let size = length-remove es i q in
      let total = ap length f in
      subst (λ (x : Branch K V). (i ≤ x.count) × (b ≡ record { pairs = insert x.pairs i p; height = x.height; count = x.count + 1; sizes = x.sizes })) (sym (leaf_made R b es ss ks is node none fs)) (
        omega (arith, size, total, q),
        sym (leaf R b es ss ks is node none) ∙ same_branch 0 [] (es ++ []) (insert (fs ++ []) i p) (length es + 0) (length fs + 0 + 1)
            (append-nil es ∙ sym (ap (λ zs. insert zs i p) (append-nil fs ∙ f) ∙ insert_removed i es p q e)) (omega (arith, size, total)),
      )

  pub leaf_shrunk : (fs : List (K × V)) → length fs ≤ length es → length es ≤ length fs + 1 → HasShrunk b (branch_of fs ss ks)
  leaf_shrunk fs p q =
      let n = leaf_size R b es ss ks is node none in
      subst (HasShrunk b) (sym (leaf_made R b es ss ks is node none fs))
      record { level = sym (leaf_height R b es ss ks is node none); most = omega arith; least = omega arith; full = leaf_full fs }

-- ---- a change in a kid of b

module _ {K V : Type 0} (R : K → K → Ordering) (b : Branch K V) (es : List (K × V)) (ss : List K) (ks : List (Branch K V)) (is : branch_of es ss ks ≡ b) (node : IsNode R es ss ks) where
  pub leaf_same_size : length ks ≡ 0 → (fs : List (K × V)) → length es ≤ length fs → length fs ≤ 32 → IsKid b.count b.height (branch_of fs ss ks)
  leaf_same_size none fs p q =
      let n = leaf_size R b es ss ks is node none in
      subst (λ x. IsKid b.count b.height x) (sym (leaf_made R b es ss ks is node none fs)) (subst (λ h. IsKid b.count h (branch_of fs [] [])) (sym (leaf_height R b es ss ks is node none)) (leaf_kid b.count fs (omega arith) q))

  pub same_here : b.count ≤ 32 → IsKid b.count b.height b
  same_here q = record { level = refl; least = omega arith; most = q; full = subst IsFull is (node_full R es ss ks node) }

  module _ (some : length ks ≡ 0 → ⊥) (o : IsTotalOrder R) (key : K) (v : V) (i : ℕ) (d k : Branch K V) (p : i ≤ length ss) (lo : Each (λ s. IsFrom R s key) (take i ss)) (hi : Each (λ s. R key s ≡ Less) (drop i ss)) where
    low : i < length ks
    low = inner_low R b es ss ks is node some i p

    grown : IsKid (get_or ks i d).count (get_or ks i d).height k → k.pairs ≡ put R key v (get_or ks i d).pairs → IsInner R ss (slice_set ks i k) × (height_of (slice_set ks i k) ≡ height_of ks)
    grown kid e = grown_inner R o ss ks (inner R b es ss ks is node some) key v i d p low lo hi (get_or ks i d).count k None ((inner_kid_at R b es ss ks is node some i d low).least) (kid, e)

    pub kid_put : IsKid (get_or ks i d).count (get_or ks i d).height k → k.pairs ≡ put R key v (get_or ks i d).pairs → b.count ≤ 32 → IsInner R ss (slice_set ks i k) × IsKid b.count b.height (branch_of es ss (slice_set ks i k))
    kid_put kid e most =
        let t = grown kid e in
        let n = inner_size R b es ss ks is node some in (
          t.0,
          subst (λ x. IsKid b.count b.height x) (sym (inner_made R b es ss ks is node some ss (slice_set ks i k)))
              (inner_kid R b.height b.count ss (slice_set ks i k) t.0 (t.1 ∙ sym (inner_levels R b es ss ks is node some)) (omega arith) (omega arith)),
        )

    pub kid_put_pairs : IsKid (get_or ks i d).count (get_or ks i d).height k → k.pairs ≡ put R key v (get_or ks i d).pairs → (branch_of es ss (slice_set ks i k)).pairs ≡ put R key v b.pairs
    kid_put_pairs kid e =
        ap (λ x. x.pairs) (inner_made R b es ss ks is node some ss (slice_set ks i k))
        ∙ grown_pairs R o ss ks (inner R b es ss ks is node some) key v i d p low lo hi (get_or ks i d).count k None (kid, e)
        ∙ ap (put R key v) (sym (inner_pairs R b es ss ks is node some))

    pub kid_kept : k ≡ get_or ks i d → b.count ≤ 32 → IsInner R ss (slice_set ks i k) × IsKid b.count b.height (branch_of es ss (slice_set ks i k))
    kid_kept e most =
        let same : slice_set ks i k ≡ ks = ap (λ x. slice_set ks i x) e ∙ set_same ks i d low in
        (subst (IsInner R ss) (sym same) (inner R b es ss ks is node some), subst (λ x. IsKid b.count b.height (branch_of es ss x)) (sym same) (subst (IsKid b.count b.height) (sym is) (same_here most)))

    pub kid_replaced : {E : Type 0} (r : Result V E) → IsKid (get_or ks i d).count (get_or ks i d).height k → IfOk r (λ _. k.pairs ≡ put R key v (get_or ks i d).pairs) → OnErr r (k ≡ get_or ks i d) → b.count ≤ 32 → IsInner R ss (slice_set ks i k) × IsKid b.count b.height (branch_of es ss (slice_set ks i k))
    kid_replaced (Ok x) kid e same most = kid_put kid e most
    kid_replaced (Err x) kid e same most = kid_kept same most

-- ---- an insertion in a kid of b

module _ {K V : Type 0} (R : K → K → Ordering) (b : Branch K V) (es : List (K × V)) (ss : List K) (ks : List (Branch K V)) (is : branch_of es ss ks ≡ b) (node : IsNode R es ss ks) (some : length ks ≡ 0 → ⊥) where
  module _ (o : IsTotalOrder R) (key : K) (v : V) (i : ℕ) (d k : Branch K V) (c : Option (K × Branch K V)) (p : i ≤ length ss) (lo : Each (λ s. IsFrom R s key) (take i ss)) (hi : Each (λ s. R key s ≡ Less) (drop i ss)) (become : HasBecome R (get_or ks i d).count (get_or ks i d).height (put R key v (get_or ks i d).pairs) k c) where
    pub beside_node : IsInner R (with_separator ss i c) (with_kid (slice_set ks i k) i c) × (height_of (with_kid (slice_set ks i k) i c) ≡ height_of ks)
    beside_node =
        let q = inner_low R b es ss ks is node some i p in
        grown_inner R o ss ks (inner R b es ss ks is node some) key v i d p q lo hi (get_or ks i d).count k c ((inner_kid_at R b es ss ks is node some i d q).least) become

    pub beside_pairs : flat (with_kid (slice_set ks i k) i c) ≡ put R key v b.pairs
    beside_pairs =
        let q = inner_low R b es ss ks is node some i p in
        grown_pairs R o ss ks (inner R b es ss ks is node some) key v i d p q lo hi (get_or ks i d).count k c become ∙ ap (put R key v) (sym (inner_pairs R b es ss ks is node some))

  -- a node of as many separators as before
  pub same_become : (ps : List (K × V)) (ts : List K) (gs : List (Branch K V)) → IsInner R ts gs → height_of gs ≡ height_of ks → length ts ≡ length ss → flat gs ≡ ps → b.count ≤ 32 → HasBecome R b.count b.height ps (branch_of es ts gs) None
  same_become ps ts gs s h n e most =
      let m = inner_size R b es ss ks is node some in
      subst (λ x. HasBecome R b.count b.height ps x None) (sym (inner_made R b es ss ks is node some ts gs))
      (inner_kid R b.height b.count ts gs s (h ∙ sym (inner_levels R b es ss ks is node some)) (omega arith) (omega arith), e)

  -- a node that may have been split
  pub split_become : (ps qs : List (K × V)) (n h : ℕ) (ts : List K) (gs : List (Branch K V)) (c : Option (K × Branch K V)) → HasBecome R n h qs (branch_of [] ts gs) c → b.count ≤ n → h ≡ height_of ks → qs ≡ ps → HasBecome R b.count b.height ps (branch_of es ts gs) c
  split_become ps qs n h ts gs c s m e f =
      subst (λ x. HasBecome R b.count b.height ps x c) (sym (inner_made R b es ss ks is node some ts gs))
      (become_from R n b.count h b.height qs ps (branch_of [] ts gs) c m (e ∙ sym (inner_levels R b es ss ks is node some)) f s)
