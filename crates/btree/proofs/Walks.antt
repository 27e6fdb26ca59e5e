-- What a walk passes: what is left of the nodes on its way, and the rows of leaves.
use Rattle.std.proofs.Common.{◌≡◌, inl, inr, ℕ, zero, suc, ◌+◌, ◌-◌, ◌<◌, ◌≤◌, Bool, true, false, not, List, [], ◌∷◌, ◌++◌, length, reverse, take, drop, get_or, refl, sym, ap, subst, ◌∙◌, arith, append_assoc, append-nil}
use Rattle.std.specs.List.{filter}
use Rattle.std.proofs.lemmas.List.{reverse-append, take_all, take_more}
use Rattle.std.proofs.lemmas.List.Elements.{filter-append}
use Rattle.std.specs.Cmp.{IsTotalOrder}
use Rattle.std.specs.Ordering.{ordering_reverse}
use Rattle.std.specs.declared.cmp.Ordering.{Ordering}
use Rattle.std.specs.declared.cmp.Ordering.TheVariants.{Less, Equal}
use Rattle.btree.specs.Order.{Each}
use Rattle.btree.specs.Branch.{Branch}
use Rattle.btree.specs.Parts.{IsFrom, flat}
use Rattle.btree.specs.Rows.{branch_of, IsInner, IsNode}
use Rattle.btree.specs.Walk.{left_of, left_back_of, HaveRoomBelow, IsPath}
use Rattle.btree.specs.declared.forward.Left.{Left}
use Rattle.btree.proofs.Order.{each_map, each_at, not_before_up}
use Rattle.btree.proofs.Parting.{flat_append, flat_cut, lower_each, upper_each}
use Rattle.btree.proofs.Shapes.{inner_height, kid_some}

whole : {A : Type 0} (n : ℕ) (xs : List A) → n ≡ length xs → take n xs ≡ xs
whole zero [] e = refl
whole (suc n) [] e = absurd (omega arith)
whole zero (x ∷ xs) e = absurd (omega arith)
whole (suc n) (x ∷ xs) e = ap (λ ys. x ∷ ys) (whole n xs (omega arith))

pub later_all : {A : Type 0} (xs : List A) → take (length xs - 1) (drop 1 xs) ≡ drop 1 xs
later_all [] = whole 0 [] refl
later_all (x ∷ xs) = whole (suc (length xs) - 1) xs (omega arith)

pub positive : (n : ℕ) → (n ≡ 0 → ⊥) → 0 < n
positive zero f = absurd (f refl)
positive (suc n) f = omega arith

pub last_split : {A : Type 0} (xs : List A) (d : A) → 0 < length xs → xs ≡ take (length xs - 1) xs ++ get_or xs (length xs - 1) d ∷ []
last_split xs d p =
    let more : length xs - 1 + 1 ≡ length xs = omega arith in
    sym (take_all (length xs) xs (omega arith)) ∙ ap (λ n. take n xs) (sym more) ∙ take_more xs (length xs - 1) d (omega arith)

pub shorter : {A : Type 0} (xs ys : List A) (x : A) → xs ≡ x ∷ ys → length ys < length xs
shorter xs ys x e = omega (arith, ap length e)

pub none_left : {A : Type 0} (xs : List A) → length xs ≡ 0 → xs ≡ []
none_left [] e = refl
none_left (x ∷ xs) e = absurd (omega arith)

-- where nothing was left, nothing is
pub both_none : {A : Type 0} (row old result new : List A) → row ++ old ≡ [] → row ++ old ≡ result ++ new → row ++ new ≡ []
both_none [] old [] new e f = sym f ∙ e
both_none [] old (x ∷ result) new e f = absurd (omega (arith, ap length (sym f ∙ e)))
both_none (x ∷ row) old result new e f = absurd (omega (arith, ap length e))

module _ {K V : Type 0} where
  -- ---- the path

  pub left_push : (rs : List (Left K V)) (r : Left K V) → left_of (rs ++ r ∷ []) ≡ flat r.kids.now ++ left_of rs
  left_push [] r = sym (append-nil (flat r.kids.now))
  left_push (x ∷ rs) r = ap (λ zs. zs ++ flat x.kids.now) (left_push rs r) ∙ append_assoc (flat r.kids.now) (left_of rs) (flat x.kids.now)

  pub left_back_push : (rs : List (Left K V)) (r : Left K V) → left_back_of (rs ++ r ∷ []) ≡ reverse (flat r.kids.now) ++ left_back_of rs
  left_back_push [] r = sym (append-nil (reverse (flat r.kids.now)))
  left_back_push (x ∷ rs) r = ap (λ zs. zs ++ reverse (flat x.kids.now)) (left_back_push rs r) ∙ append_assoc (reverse (flat r.kids.now)) (left_back_of rs) (reverse (flat x.kids.now))

  pub path_push : (n : ℕ) (rs : List (Left K V)) (r : Left K V) → IsPath n rs → 0 < length r.kids.now → n + length rs < 16 → HaveRoomBelow (n + length rs) r.kids.now → IsPath n (rs ++ r ∷ [])
  path_push n [] r h p m q = ((p, omega (arith, m), subst (λ m. HaveRoomBelow m r.kids.now) (omega arith) q), tt)
  path_push n (x ∷ rs) r h p m q = (h.0, path_push (suc n) rs r h.1 p (omega (arith, m)) (subst (λ m. HaveRoomBelow m r.kids.now) (omega arith) q))

  pub path_pop : (n : ℕ) (rs : List (Left K V)) (r : Left K V) → IsPath n (rs ++ r ∷ []) → IsPath n rs × (0 < length r.kids.now) × (n + length rs < 16) × HaveRoomBelow (n + length rs) r.kids.now
  path_pop n [] r h = (tt, h.0.0, omega (arith, h.0.1), subst (λ m. HaveRoomBelow m r.kids.now) (omega arith) h.0.2)
  path_pop n (x ∷ rs) r h =
      let t = path_pop (suc n) rs r h.1 in
      ((h.0, t.0), t.1, omega (arith, t.2), subst (λ m. HaveRoomBelow m r.kids.now) (omega arith) t.3)

  -- ---- room for the nodes below

  pub room_at : (rows : ℕ) (ks : List (Branch K V)) (i : ℕ) (d : Branch K V) → i < length ks → HaveRoomBelow rows ks → (rows + suc (get_or ks i d).height < 16) × (0 < length (get_or ks i d).pairs)
  room_at rows ks i d p s = each_at (λ (k : Branch K V). (rows + suc k.height < 16) × (0 < length k.pairs)) ks i d p s

  pub room_dropped : (rows n : ℕ) (ks : List (Branch K V)) → HaveRoomBelow rows ks → HaveRoomBelow rows (drop n ks)
  room_dropped rows zero ks s = s
  room_dropped rows (suc n) [] s = tt
  room_dropped rows (suc n) (k ∷ ks) s = room_dropped rows n ks s.1

  pub room_taken : (rows n : ℕ) (ks : List (Branch K V)) → HaveRoomBelow rows ks → HaveRoomBelow rows (take n ks)
  room_taken rows zero ks s = tt
  room_taken rows (suc n) [] s = tt
  room_taken rows (suc n) (k ∷ ks) s = (s.0, room_taken rows n ks s.1)

  pub flat_first : (ks : List (Branch K V)) (d : Branch K V) → 0 < length ks → flat ks ≡ (get_or ks 0 d).pairs ++ flat (drop 1 ks)
  flat_first [] d p = absurd (omega arith)
  flat_first (k ∷ ks) d p = refl

  pub flat_last : (ks : List (Branch K V)) (d : Branch K V) → 0 < length ks → flat ks ≡ flat (take (length ks - 1) ks) ++ (get_or ks (length ks - 1) d).pairs
  flat_last ks d p =
      ap flat (last_split ks d p) ∙ flat_append (take (length ks - 1) ks) (get_or ks (length ks - 1) d ∷ []) ∙ ap (λ zs. flat (take (length ks - 1) ks) ++ zs) (append-nil (get_or ks (length ks - 1) d).pairs)

module _ {K V : Type 0} (R : K → K → Ordering) where
  -- the kids of a node that there is room for
  pub room_in : (rows : ℕ) (es : List (K × V)) (ss : List K) (ks : List (Branch K V)) (b : Branch K V) → branch_of es ss ks ≡ b → IsNode R es ss ks → rows + b.height < 16 → HaveRoomBelow rows ks
  room_in rows es ss ks b is (inl leaf) p = subst (HaveRoomBelow rows) (sym leaf.1) tt
  room_in rows es ss ks b is (inr s) p =
      let level = ap (λ x. x.height) is in
      let height = inner_height R ss ks s.1 in
      each_map (λ x t. (let e = t.level in omega (arith, e, level, height, p), kid_some s.1.level x t)) ks s.1.kids

-- ---- what a point parts

pub all_kept : {A : Type 0} (p : A → Bool) (xs : List A) → Each (λ x. p x ≡ true) xs → filter p xs ≡ xs
all_kept p [] h = refl
all_kept p (x ∷ xs) h = rw h.0 (ap (λ zs. x ∷ zs) (all_kept p xs h.1))

pub none_kept : {A : Type 0} (p : A → Bool) (xs : List A) → Each (λ x. p x ≡ false) xs → filter p xs ≡ []
none_kept p [] h = refl
none_kept p (x ∷ xs) h = rw h.0 (none_kept p xs h.1)

module _ {K V : Type 0} (R : K → K → Ordering) (o : IsTotalOrder R) (p : K → Bool) (down : (x y : K) → R x y ≡ Less → p y ≡ true → p x ≡ true) (tied : (x y : K) → R x y ≡ Equal → p x ≡ p y) (ss : List K) (ks : List (Branch K V)) (inner : IsInner R ss ks)
    (i : ℕ) (d : Branch K V) (in_range : i ≤ length ss) (low : i < length ks) (before : Each (λ s. p s ≡ true) (take i ss)) (after : Each (λ s. p s ≡ false) (drop i ss)) where
  pub front_before : Each (λ (e : K × V). p e.0 ≡ true) (flat (take i ks))
  front_before = lower_each R (λ (e : K × V). p e.0 ≡ true) (λ s. p s ≡ true) (λ s e t h. down e.0 s h t) i ss ks in_range inner.parted before

  not_before : (s : K) (e : K × V) → p s ≡ false → IsFrom R s e.0 → p e.0 ≡ false
  not_before s e f (inl t) = tied e.0 s t ∙ f
  not_before s e f (inr g) = not_before_up R p down s e.0 (o.antisymm s e.0 ∙ ap ordering_reverse g) f

  pub back_after : Each (λ (e : K × V). p e.0 ≡ false) (flat (drop (suc i) ks))
  back_after = upper_each R (λ (e : K × V). p e.0 ≡ false) (λ s. p s ≡ false) not_before i ss ks inner.fits in_range inner.parted after

  pub kept_from : filter (λ (e : K × V). not (p e.0)) (flat ks) ≡ filter (λ (e : K × V). not (p e.0)) (get_or ks i d).pairs ++ flat (drop (suc i) ks)
  kept_from =
      let q = λ (e : K × V). not (p e.0) in
      ap (filter q) (flat_cut i ks d low)
      ∙ filter-append q (flat (take i ks)) ((get_or ks i d).pairs ++ flat (drop (suc i) ks))
      ∙ ap (λ zs. zs ++ filter q ((get_or ks i d).pairs ++ flat (drop (suc i) ks))) (none_kept q (flat (take i ks)) (each_map (λ x t. ap not t) (flat (take i ks)) front_before))
      ∙ filter-append q (get_or ks i d).pairs (flat (drop (suc i) ks))
      ∙ ap (λ zs. filter q (get_or ks i d).pairs ++ zs) (all_kept q (flat (drop (suc i) ks)) (each_map (λ x t. ap not t) (flat (drop (suc i) ks)) back_after))

  pub kept_before : reverse (filter (λ (e : K × V). p e.0) (flat ks)) ≡ reverse (filter (λ (e : K × V). p e.0) (get_or ks i d).pairs) ++ reverse (flat (take i ks))
  kept_before =
      let q = λ (e : K × V). p e.0 in
      ap reverse (
      ap (filter q) (flat_cut i ks d low)
      ∙ filter-append q (flat (take i ks)) ((get_or ks i d).pairs ++ flat (drop (suc i) ks))
      ∙ ap (λ zs. zs ++ filter q ((get_or ks i d).pairs ++ flat (drop (suc i) ks))) (all_kept q (flat (take i ks)) front_before)
      ∙ ap (λ zs. flat (take i ks) ++ zs) (filter-append q (get_or ks i d).pairs (flat (drop (suc i) ks)) ∙ ap (λ zs. filter q (get_or ks i d).pairs ++ zs) (none_kept q (flat (drop (suc i) ks)) back_after) ∙ append-nil (filter q (get_or ks i d).pairs)))
      ∙ reverse-append (flat (take i ks)) (filter q (get_or ks i d).pairs)

-- a leaf's pairs from a place on, and before it
pub leaf_from : {K V : Type 0} (p : K → Bool) (i : ℕ) (es : List (K × V)) → Each (λ (e : K × V). p e.0 ≡ true) (take i es) → Each (λ (e : K × V). p e.0 ≡ false) (drop i es) → filter (λ (e : K × V). not (p e.0)) es ≡ drop i es
leaf_from p zero es h k = all_kept (λ e. not (p e.0)) es (each_map (λ x t. ap not t) es k)
leaf_from p (suc i) [] h k = refl
leaf_from p (suc i) (e ∷ es) h k = rw h.0 (leaf_from p i es h.1 k)

pub leaf_before : {K V : Type 0} (p : K → Bool) (i : ℕ) (es : List (K × V)) → Each (λ (e : K × V). p e.0 ≡ true) (take i es) → Each (λ (e : K × V). p e.0 ≡ false) (drop i es) → filter (λ (e : K × V). p e.0) es ≡ take i es
leaf_before p zero es h k = none_kept (λ e. p e.0) es k
leaf_before p (suc i) [] h k = refl
leaf_before p (suc i) (e ∷ es) h k = rw h.0 (ap (λ zs. e ∷ zs) (leaf_before p i es h.1 k))

-- ---- one step in a leaf

pub first_split : {A : Type 0} (xs : List A) (d : A) → 0 < length xs → xs ≡ get_or xs 0 d ∷ take (length xs - 1) (drop 1 xs)
first_split [] d p = absurd (omega arith)
first_split (x ∷ xs) d p = ap (λ zs. x ∷ zs) (sym (later_all (x ∷ xs)))

pub last_reversed : {A : Type 0} (xs : List A) (d : A) → 0 < length xs → reverse xs ≡ get_or xs (length xs - 1) d ∷ reverse (take (length xs - 1) xs)
last_reversed xs d p = ap reverse (last_split xs d p) ∙ reverse-append (take (length xs - 1) xs) (get_or xs (length xs - 1) d ∷ [])
