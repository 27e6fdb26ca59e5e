-- The shape of a node: leaves and inner nodes, and how many pairs there are at least.
use Rattle.std.proofs.Math.Nat.{pow-succ', suc-mul, mul-le-mul_right}
use Rattle.std.proofs.Common.{◌≡◌, inl, inr, ℕ, zero, suc, ◌+◌, ◌*◌, ◌^◌, ◌<◌, ◌≤◌, List, [], ◌∷◌, length, get_or, refl, sym, ap, subst, ◌∙◌, arith, length-append, append-nil}
use Rattle.std.specs.declared.cmp.Ordering.{Ordering}
use Rattle.btree.specs.Order.{Each}
use Rattle.btree.specs.Branch.{Branch}
use Rattle.btree.specs.Parts.{flat}
use Rattle.btree.specs.Rows.{height_of, sizes_of, branch_of, fewest_pairs, IsSize, IsFull, IsKid, IsInner, IsNode, HasShrunk}
use Rattle.btree.proofs.Order.{each_append, each_map, each_at}

pub one_power : (h : ℕ) → 1 ≤ 17 ^ h
one_power zero = omega arith
one_power (suc h) = omega (arith, pow-succ' 17 h, one_power h)

module _ {K V : Type 0} where
  pub no_kids : (ks : List (Branch K V)) → length ks ≡ 0 → ks ≡ []
  no_kids [] e = refl
  no_kids (k ∷ ks) e = absurd (omega arith)

  pub height_kids : (h : ℕ) (ks : List (Branch K V)) → 0 < length ks → Each (IsKid 16 h) ks → height_of ks ≡ suc h
  height_kids h [] p s = absurd (omega arith)
  height_kids h (k ∷ ks) p s = ap suc s.0.level

  -- ---- how many pairs there are

  pub kid_long : (h : ℕ) (k : Branch K V) → IsKid 16 h k → 16 * 17 ^ h ≤ length k.pairs
  kid_long zero k s =
      let full : k.count ≤ length k.pairs = subst (λ n. fewest_pairs n k.count ≤ length k.pairs) s.level s.full.0 in
      let q = s.least in
      omega arith
  kid_long (suc h) k s =
      let full : suc k.count * (16 * 17 ^ h) ≤ length k.pairs = subst (λ n. fewest_pairs n k.count ≤ length k.pairs) s.level s.full.0 in
      let least : 17 * (16 * 17 ^ h) ≤ suc k.count * (16 * 17 ^ h) = mul-le-mul_right (16 * 17 ^ h) (let q = s.least in omega arith) in
      omega (arith, pow-succ' 17 h)

  pub kid_some : (h : ℕ) (k : Branch K V) → IsKid 16 h k → 0 < length k.pairs
  kid_some h k s = omega (arith, kid_long h k s, one_power h)

  -- a kid that isn't a leaf holds more than one node can
  pub kid_high : (h : ℕ) (k : Branch K V) → IsKid 16 h k → 0 < k.height → 32 < length k.pairs
  kid_high zero k s p = let e = s.level in absurd (omega (arith, e, p))
  kid_high (suc h) k s p = omega (arith, kid_long (suc h) k s, pow-succ' 17 h, one_power h)

  pub kids_some : (h : ℕ) (ks : List (Branch K V)) → Each (IsKid 16 h) ks → Each (λ (k : Branch K V). 0 < length k.pairs) ks
  kids_some h ks s = each_map (kid_some h) ks s

  pub flat_long : (h : ℕ) (ks : List (Branch K V)) → Each (IsKid 16 h) ks → length ks * (16 * 17 ^ h) ≤ length (flat ks)
  flat_long h [] s = omega arith
  flat_long h (k ∷ ks) s = omega (arith, kid_long h k s.0, flat_long h ks s.1, suc-mul (length ks) (16 * 17 ^ h), length-append k.pairs (flat ks))

  pub each_size : (h : ℕ) (ks : List (Branch K V)) → Each (IsKid 16 h) ks → Each IsSize (sizes_of ks)
  each_size h [] s = tt
  each_size h (k ∷ ks) s = ((s.0.least, s.0.most), each_append IsSize k.sizes (sizes_of ks) s.0.full.1 (each_size h ks s.1))

  -- ---- leaves

  pub leaf_full : (es : List (K × V)) → IsFull (branch_of es [] [])
  leaf_full es = (omega (arith, length-append es []), tt)

  pub leaf_kid : (fewest : ℕ) (es : List (K × V)) → fewest ≤ length es → length es ≤ 32 → IsKid fewest 0 (branch_of es [] [])
  leaf_kid fewest es p q = record { level = refl; least = omega arith; most = omega arith; full = leaf_full es }

-- ---- inner nodes

module _ {K V : Type 0} (R : K → K → Ordering) where
  pub inner_height : (ss : List K) (ks : List (Branch K V)) (s : IsInner R ss ks) → height_of ks ≡ suc s.level
  inner_height ss ks s = let f = s.fits in height_kids s.level ks (omega arith) s.kids

  pub inner_full : (ss : List K) (ks : List (Branch K V)) → IsInner R ss ks → IsFull (branch_of [] ss ks)
  inner_full ss ks s =
      let long : suc (length ss) * (16 * 17 ^ s.level) ≤ length (flat ks) = subst (λ n. n * (16 * 17 ^ s.level) ≤ length (flat ks)) s.fits (flat_long s.level ks s.kids) in
      let count : length ss ≡ 0 + length ss = omega arith in
      (subst (λ n. fewest_pairs n (0 + length ss) ≤ length (flat ks)) (sym (inner_height ss ks s)) (subst (λ n. suc n * (16 * 17 ^ s.level) ≤ length (flat ks)) count long), each_size s.level ks s.kids)

  -- so do three kids
  pub kids_many : (ss : List K) (ks : List (Branch K V)) → IsInner R ss ks → 1 < length ss → 32 < length (flat ks)
  kids_many ss ks s p =
      let f = s.fits in
      let three : 3 * (16 * 17 ^ s.level) ≤ length ks * (16 * 17 ^ s.level) = mul-le-mul_right (16 * 17 ^ s.level) (omega (arith, f, p)) in
      omega (arith, three, flat_long s.level ks s.kids, one_power s.level)

  -- an inner node of these rows is a kid
  pub inner_kid : (h fewest : ℕ) (ss : List K) (ks : List (Branch K V)) → IsInner R ss ks → height_of ks ≡ h → fewest ≤ length ss → length ss ≤ 32 → IsKid fewest h (branch_of [] ss ks)
  inner_kid h fewest ss ks s e p q = record { level = e; least = omega arith; most = omega arith; full = inner_full ss ks s }

  -- ---- which of both a node is

  none_inner : (ss : List K) (ks : List (Branch K V)) → IsInner R ss ks → ks ≡ [] → ⊥
  none_inner ss ks s e = let f = s.fits in omega (arith, f, ap length e)

  pub leaf_is : (b : Branch K V) (es : List (K × V)) (ss : List K) (ks : List (Branch K V)) → branch_of es ss ks ≡ b → IsNode R es ss ks → ks ≡ [] → (ss ≡ []) × (branch_of es [] [] ≡ b)
  leaf_is b es ss ks is (inl leaf) none = (leaf.0, sym (ap (λ x. branch_of es x ks) leaf.0 ∙ ap (λ x. branch_of es [] x) none) ∙ is)
  leaf_is b es ss ks is (inr inner) none = absurd (none_inner ss ks inner.1 none)

  pub inner_is : (b : Branch K V) (es : List (K × V)) (ss : List K) (ks : List (Branch K V)) → branch_of es ss ks ≡ b → IsNode R es ss ks → (length ks ≡ 0 → ⊥) → (es ≡ []) × (branch_of [] ss ks ≡ b) × IsInner R ss ks
  inner_is b es ss ks is (inl leaf) some = absurd (some (ap length leaf.1))
  inner_is b es ss ks is (inr inner) some = (inner.0, sym (ap (λ x. branch_of x ss ks) inner.0) ∙ is, inner.1)

  pub node_full : (es : List (K × V)) (ss : List K) (ks : List (Branch K V)) → IsNode R es ss ks → IsFull (branch_of es ss ks)
  node_full es ss ks (inl leaf) = subst (λ x. IsFull (branch_of es x ks)) (sym leaf.0) (subst (λ x. IsFull (branch_of es [] x)) (sym leaf.1) (leaf_full es))
  node_full es ss ks (inr inner) = subst (λ x. IsFull (branch_of x ss ks)) (sym inner.0) (inner_full ss ks inner.1)

  pub not_shrunk : (b : Branch K V) (es : List (K × V)) (ss : List K) (ks : List (Branch K V)) → branch_of es ss ks ≡ b → IsNode R es ss ks → HasShrunk b b
  not_shrunk b es ss ks is node = record { level = refl; most = omega arith; least = omega arith; full = subst IsFull is (node_full es ss ks node) }

  -- a kid of an inner node
  pub kid_at : (i : ℕ) (ss : List K) (ks : List (Branch K V)) (d : Branch K V) → IsInner R ss ks → i < length ks → (suc (get_or ks i d).height ≡ height_of ks) × IsKid 16 (get_or ks i d).height (get_or ks i d)
  kid_at i ss ks d s p =
      let k = each_at (IsKid 16 s.level) ks i d p s.kids in
      (ap suc k.level ∙ sym (inner_height ss ks s), record { level = refl; least = k.least; most = k.most; full = k.full })

  -- a place among the separators is one of a kid
  pub below_kids : (i : ℕ) (ss : List K) (ks : List (Branch K V)) → IsInner R ss ks → i ≤ length ss → i < length ks
  below_kids i ss ks s p = let f = s.fits in omega arith

-- the pairs, the height and the number of a leaf
pub leaf_pairs : {K V : Type 0} (b : Branch K V) (es : List (K × V)) → branch_of es [] [] ≡ b → b.pairs ≡ es
leaf_pairs b es is = sym (ap (λ x. x.pairs) is) ∙ append-nil es

pub leaf_count : {K V : Type 0} (b : Branch K V) (es : List (K × V)) → branch_of es [] [] ≡ b → b.count ≡ length es
leaf_count b es is = let n = ap (λ x. x.count) is in omega arith
