-- Pairs and nodes that lose values.
use Rattle.std.proofs.lemmas.List.{length-map, map-append}
use Rattle.std.proofs.Common.{◌≡◌, inl, inr, ℕ, zero, suc, ◌+◌, ◌<◌, ◌≤◌, Bool, true, false, cond, IfSome, List, [], ◌∷◌, ◌++◌, length, map, take, drop, slice_set, get_or, refl, sym, ap, subst, ◌∙◌, arith}
use Rattle.std.specs.List.{slice_get}
use Rattle.std.specs.declared.cmp.Ordering.{Ordering}
use Rattle.std.specs.declared.cmp.Ordering.TheVariants.{Less}
use Rattle.btree.specs.Order.{Each, Ascends, last_of}
use Rattle.btree.specs.Branch.{Branch}
use Rattle.btree.specs.Parts.{IsFrom, AreParted, flat}
use Rattle.btree.specs.Rows.{height_of, sizes_of, branch_of, fewest_pairs, IsKid, IsNode}
use Rattle.btree.specs.Stretch.{is_in_run}
use Rattle.btree.specs.Tree.{IsRoot}
use Rattle.btree.specs.Values.{emptied, without_values}
use Rattle.btree.proofs.Order.{each_map, ascends_front, ascends_back, not_before_up}
use Rattle.btree.proofs.Shapes.{inner_height}
use Rattle.btree.proofs.Stretches.{before_last, outside_after, outside_ahead}

-- ---- a row of which the first elements are changed

abbrev pub mapped : {A : Type 0} → (A → A) → ℕ → List A → List A
mapped f i xs = map f (take i xs) ++ drop i xs

module _ {A : Type 0} (f : A → A) where
  pub mapped_at : (xs : List A) (i : ℕ) (d : A) → i < length xs → get_or (mapped f i xs) i d ≡ get_or xs i d
  mapped_at [] i d p = absurd (omega arith)
  mapped_at (x ∷ xs) zero d p = refl
  mapped_at (x ∷ xs) (suc i) d p = mapped_at xs i d (omega arith)

  pub mapped_more : (xs : List A) (i : ℕ) (y d : A) → i < length xs → y ≡ f (get_or xs i d) → slice_set (mapped f i xs) i y ≡ mapped f (suc i) xs
  mapped_more [] i y d p e = absurd (omega arith)
  mapped_more (x ∷ xs) zero y d p e = ap (λ z. z ∷ xs) e
  mapped_more (x ∷ xs) (suc i) y d p e = ap (λ zs. f x ∷ zs) (mapped_more xs i y d (omega arith) e)

  pub mapped_all : (xs : List A) (i : ℕ) → length xs ≤ i → mapped f i xs ≡ map f xs
  mapped_all [] i p = nothing i
    where
      nothing : (i : ℕ) → mapped f i [] ≡ []
      nothing zero = refl
      nothing (suc i) = refl
  mapped_all (x ∷ xs) zero p = absurd (omega arith)
  mapped_all (x ∷ xs) (suc i) p = ap (λ zs. f x ∷ zs) (mapped_all xs i (omega arith))

  pub mapped_none : (xs : List A) → mapped f 0 xs ≡ xs
  mapped_none xs = refl

-- ---- pairs outside the run

module _ {K V : Type 0} (none : V) (from to : K → Bool) where
  all_kept : (es : List (K × V)) → Each (λ (e : K × V). is_in_run from to e ≡ false) es → map (emptied none from to) es ≡ es
  all_kept [] h = refl
  all_kept (e ∷ es) h = ap (λ b. (e.0, cond b none e.1) ∷ map (emptied none from to) es) h.0 ∙ ap (λ fs. e ∷ fs) (all_kept es h.1)

  -- what holds of keys
  pub each_emptied : (P : K → Type 0) (es : List (K × V)) → Each (λ (e : K × V). P e.0) es → Each (λ (e : K × V). P e.0) (map (emptied none from to) es)
  each_emptied P [] h = tt
  each_emptied P (e ∷ es) h = (h.0, each_emptied P es h.1)

module _ {K V : Type 0} (R : K → K → Ordering) (none : V) (from to : K → Bool) where
  pub ascends_emptied : (es : List (K × V)) → Ascends R es → Ascends R (map (emptied none from to) es)
  ascends_emptied [] h = tt
  ascends_emptied (e ∷ es) h = (each_emptied none from to (λ k. R e.0 k ≡ Less) es h.0, ascends_emptied es h.1)

  pub before_kept : ((x y : K) → R x y ≡ Less → from y ≡ true → from x ≡ true) → (b : Branch K V) → Ascends R b.pairs → IfSome (last_of b.pairs) (λ e. from e.0 ≡ true) → b ≡ without_values none from to b
  before_kept down b sorted last =
      let all = before_last R (λ (e : K × V). from e.0 ≡ true) (λ x y. down x.0 y.0) b.pairs sorted last in
      let same = all_kept none from to b.pairs (each_map (λ e h. outside_ahead (from e.0) (to e.0) h) b.pairs all) in
      ap (λ (es : List (K × V)). record { pairs = es; height = b.height; count = b.count; sizes = b.sizes }) (sym same)

  pub after_kept : ((x y : K) → R x y ≡ Less → to y ≡ true → to x ≡ true) → (b : Branch K V) → Ascends R b.pairs → IfSome (slice_get b.pairs 0) (λ e. to e.0 ≡ false) → b ≡ without_values none from to b
  after_kept down b sorted first =
      let same = all_kept none from to b.pairs (each_map (λ e h. outside_after (from e.0) (to e.0) h) b.pairs (all b.pairs sorted first)) in
      ap (λ (es : List (K × V)). record { pairs = es; height = b.height; count = b.count; sizes = b.sizes }) (sym same)
    where
      all : (es : List (K × V)) → Ascends R es → IfSome (slice_get es 0) (λ e. to e.0 ≡ false) → Each (λ (e : K × V). to e.0 ≡ false) es
      all [] s h = tt
      all (e ∷ es) s h = (h, each_map (λ y r. not_before_up R to down e.0 y.0 r h) es s.0)

-- ---- a node's rows

module _ {K V : Type 0} (none : V) (from to : K → Bool) where
  flat_emptied : (ks : List (Branch K V)) → flat (map (without_values none from to) ks) ≡ map (emptied none from to) (flat ks)
  flat_emptied [] = refl
  flat_emptied (k ∷ ks) = ap (λ es. map (emptied none from to) k.pairs ++ es) (flat_emptied ks) ∙ sym (map-append (emptied none from to) k.pairs (flat ks))

  height_emptied : (ks : List (Branch K V)) → height_of (map (without_values none from to) ks) ≡ height_of ks
  height_emptied [] = refl
  height_emptied (k ∷ ks) = refl

  sizes_emptied : (ks : List (Branch K V)) → sizes_of (map (without_values none from to) ks) ≡ sizes_of ks
  sizes_emptied [] = refl
  sizes_emptied (k ∷ ks) = ap (λ ns. k.count ∷ (k.sizes ++ ns)) (sizes_emptied ks)

  pub branch_emptied : (es : List (K × V)) (ss : List K) (ks : List (Branch K V)) → branch_of (map (emptied none from to) es) ss (map (without_values none from to) ks) ≡ without_values none from to (branch_of es ss ks)
  branch_emptied es ss ks =
      let pairs : map (emptied none from to) es ++ flat (map (without_values none from to) ks) ≡ map (emptied none from to) (es ++ flat ks) = ap (λ fs. map (emptied none from to) es ++ fs) (flat_emptied ks) ∙ sym (map-append (emptied none from to) es (flat ks)) in
      let height = height_emptied ks in
      let count : length (map (emptied none from to) es) + length ss ≡ length es + length ss = ap (λ n. n + length ss) (length-map es (emptied none from to)) in
      let sizes = sizes_emptied ks in
      λ i. record { pairs = pairs i; height = height i; count = count i; sizes = sizes i }

  module _ (R : K → K → Ordering) where
    kid_emptied : (h : ℕ) (k : Branch K V) → IsKid 16 h k → IsKid 16 h (without_values none from to k)
    kid_emptied h k s = record {
      level = s.level;
      least = s.least;
      most = s.most;
      full = (subst (λ n. fewest_pairs k.height k.count ≤ n) (sym (length-map k.pairs (emptied none from to))) s.full.0, s.full.1);
    }

    kids_emptied : (h : ℕ) (ks : List (Branch K V)) → Each (IsKid 16 h) ks → Each (IsKid 16 h) (map (without_values none from to) ks)
    kids_emptied h [] s = tt
    kids_emptied h (k ∷ ks) s = (kid_emptied h k s.0, kids_emptied h ks s.1)

    parted_emptied : (ss : List K) (ks : List (Branch K V)) → AreParted R ss ks → AreParted R ss (map (without_values none from to) ks)
    parted_emptied [] ks h = tt
    parted_emptied (s ∷ ss) [] h = tt
    parted_emptied (s ∷ ss) (k ∷ ks) h =
        let later = subst (Each (λ (e : K × V). IsFrom R s e.0)) (sym (flat_emptied ks)) (each_emptied none from to (IsFrom R s) (flat ks) h.0.1) in
        ((each_emptied none from to (λ x. R x s ≡ Less) k.pairs h.0.0, later), h.1, parted_emptied ss ks h.2)

    pub node_emptied : (es : List (K × V)) (ss : List K) (ks : List (Branch K V)) → IsNode R es ss ks → IsNode R (map (emptied none from to) es) ss (map (without_values none from to) ks)
    node_emptied es ss ks (inl n) = inl (n.0, ap (map (without_values none from to)) n.1)
    node_emptied es ss ks (inr n) =
        let s = n.1 in
        inr (
          ap (map (emptied none from to)) n.0,
          record {
            level = s.level;
            fits = length-map ks (without_values none from to) ∙ s.fits;
            kids = kids_emptied s.level ks s.kids;
            parted = parted_emptied ss ks s.parted;
          },
        )

-- ---- what a node's kids are asked for

module _ {K V : Type 0} (R : K → K → Ordering) where
  kids_ascend : (ks : List (Branch K V)) → Ascends R (flat ks) → Each (λ (k : Branch K V). Ascends R k.pairs) ks
  kids_ascend [] s = tt
  kids_ascend (k ∷ ks) s = (ascends_front R k.pairs (flat ks) s, kids_ascend ks (ascends_back R k.pairs (flat ks) s))

  pub all_ascend : (b : Branch K V) (es : List (K × V)) (ss : List K) (ks : List (Branch K V)) → branch_of es ss ks ≡ b → Ascends R b.pairs → Each (λ (k : Branch K V). Ascends R k.pairs) ks
  all_ascend b es ss ks is s = kids_ascend ks (ascends_back R es (flat ks) (subst (λ (x : Branch K V). Ascends R x.pairs) (sym is) s))

  pub all_level : (es : List (K × V)) (ss : List K) (ks : List (Branch K V)) → IsNode R es ss ks → Each (λ (k : Branch K V). suc k.height ≡ height_of ks) ks
  all_level es ss ks (inl n) = subst (λ (zs : List (Branch K V)). Each (λ (k : Branch K V). suc k.height ≡ height_of zs) zs) (sym n.1) tt
  all_level es ss ks (inr n) = let s = n.1 in each_map (λ k t. ap suc t.level ∙ sym (inner_height R ss ks s)) ks s.kids

-- ---- a root

pub root_emptied : {K V : Type 0} (R : K → K → Ordering) (none : V) (from to : K → Bool) (b : Branch K V) → IsRoot R b → IsRoot R (without_values none from to b)
root_emptied R none from to b s =
    let long = length-map b.pairs (emptied none from to) in
    record {
      sorted = ascends_emptied R none from to b.pairs s.sorted;
      most = s.most;
      full = (subst (λ n. fewest_pairs b.height b.count ≤ n) (sym long) s.full.0, s.full.1);
      inner = s.inner;
      many = λ p. subst (λ n. 32 < n) (sym long) (s.many p);
    }
