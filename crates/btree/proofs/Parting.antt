-- Separators and the pairs that they part.
use Rattle.std.proofs.Common.{◌≡◌, inl, inr, ℕ, zero, suc, ◌<◌, ◌≤◌, Option, Some, None, List, [], ◌∷◌, ◌++◌, length, take, drop, slice_set, get_or, refl, sym, ap, subst, ◌∙◌, arith, append_assoc}
use Rattle.std.specs.List.{insert, remove}
use Rattle.std.specs.Cmp.{IsTotalOrder}
use Rattle.std.specs.Ordering.{ordering_reverse}
use Rattle.std.specs.declared.cmp.Ordering.{Ordering}
use Rattle.std.specs.declared.cmp.Ordering.TheVariants.{Less, Greater}
use Rattle.btree.specs.Order.{Each}
use Rattle.btree.specs.Branch.{Branch}
use Rattle.btree.specs.Parts.{IsFrom, Parts, Rises, flat, AreParted}
use Rattle.btree.specs.Rows.{with_separator, with_kid}
use Rattle.btree.proofs.Order.{each_map, each_append, each_front, each_back, each_at, each_insert}

-- ---- lists

pub each_remove : {A : Type 0} (P : A → Type 0) (xs : List A) (i : ℕ) → Each P xs → Each P (remove xs i)
each_remove P [] zero h = tt
each_remove P [] (suc i) h = tt
each_remove P (x ∷ xs) zero h = h.1
each_remove P (x ∷ xs) (suc i) h = (h.0, each_remove P xs i h.1)

module _ {K V : Type 0} where
  pub flat_append : (js ls : List (Branch K V)) → flat (js ++ ls) ≡ flat js ++ flat ls
  flat_append [] ls = refl
  flat_append (j ∷ js) ls = ap (λ zs. j.pairs ++ zs) (flat_append js ls) ∙ sym (append_assoc j.pairs (flat js) (flat ls))

  -- all pairs, cut at the i-th kid
  pub flat_cut : (i : ℕ) (ks : List (Branch K V)) (d : Branch K V) → i < length ks → flat ks ≡ flat (take i ks) ++ ((get_or ks i d).pairs ++ flat (drop (suc i) ks))
  flat_cut i [] d p = absurd (omega arith)
  flat_cut zero (k ∷ ks) d p = refl
  flat_cut (suc i) (k ∷ ks) d p = ap (λ zs. k.pairs ++ zs) (flat_cut i ks d (omega arith)) ∙ sym (append_assoc k.pairs (flat (take i ks)) ((get_or ks i d).pairs ++ flat (drop (suc i) ks)))

  pub flat_set : (i : ℕ) (ks : List (Branch K V)) (k : Branch K V) → i < length ks → flat (slice_set ks i k) ≡ flat (take i ks) ++ (k.pairs ++ flat (drop (suc i) ks))
  flat_set i [] k p = absurd (omega arith)
  flat_set zero (x ∷ ks) k p = refl
  flat_set (suc i) (x ∷ ks) k p = ap (λ zs. x.pairs ++ zs) (flat_set i ks k (omega arith)) ∙ sym (append_assoc x.pairs (flat (take i ks)) (k.pairs ++ flat (drop (suc i) ks)))

  -- the pairs of a kid that became one or two
  abbrev pub joined : Branch K V → Option (K × Branch K V) → List (K × V)
  joined k None = k.pairs
  joined k (Some s) = k.pairs ++ s.1.pairs

  pub flat_beside : (i : ℕ) (ks : List (Branch K V)) (k : Branch K V) (o : Option (K × Branch K V)) → i < length ks → flat (with_kid (slice_set ks i k) i o) ≡ flat (take i ks) ++ (joined k o ++ flat (drop (suc i) ks))
  flat_beside i [] k o p = absurd (omega arith)
  flat_beside zero (x ∷ ks) k None p = refl
  flat_beside zero (x ∷ ks) k (Some s) p = sym (append_assoc k.pairs s.1.pairs (flat ks))
  flat_beside (suc i) (x ∷ ks) k None p = ap (λ zs. x.pairs ++ zs) (flat_beside i ks k None (omega arith)) ∙ sym (append_assoc x.pairs (flat (take i ks)) (k.pairs ++ flat (drop (suc i) ks)))
  flat_beside (suc i) (x ∷ ks) k (Some s) p =
      ap (λ zs. x.pairs ++ zs) (flat_beside i ks k (Some s) (omega arith)) ∙ sym (append_assoc x.pairs (flat (take i ks)) ((k.pairs ++ s.1.pairs) ++ flat (drop (suc i) ks)))

  pub flat_joined : (l : ℕ) (ks : List (Branch K V)) (j a b : Branch K V) → suc l < length ks → j.pairs ≡ (get_or ks l a).pairs ++ (get_or ks (suc l) b).pairs → flat (slice_set (remove ks (suc l)) l j) ≡ flat ks
  flat_joined l [] j a b p e = absurd (omega arith)
  flat_joined l (x ∷ []) j a b p e = absurd (omega arith)
  flat_joined zero (x ∷ y ∷ ks) j a b p e = ap (λ zs. zs ++ flat ks) e ∙ append_assoc x.pairs y.pairs (flat ks)
  flat_joined (suc l) (x ∷ y ∷ ks) j a b p e = ap (λ zs. x.pairs ++ zs) (flat_joined l (y ∷ ks) j a b (omega arith) e)

  pub each_flat_set : (P : K × V → Type 0) (i : ℕ) (ks : List (Branch K V)) (j : Branch K V) → i < length ks → Each P (flat (slice_set ks i j)) → Each P j.pairs
  each_flat_set P i [] j p h = absurd (omega arith)
  each_flat_set P zero (k ∷ ks) j p h = each_front P j.pairs (flat ks) h
  each_flat_set P (suc i) (k ∷ ks) j p h = each_flat_set P i ks j (omega arith) (each_back P k.pairs (flat (slice_set ks i j)) h)

  pub each_flat_at : (P : K × V → Type 0) (i : ℕ) (ks : List (Branch K V)) (d : Branch K V) → i < length ks → Each P (flat ks) → Each P (get_or ks i d).pairs
  each_flat_at P i [] d p h = absurd (omega arith)
  each_flat_at P zero (k ∷ ks) d p h = each_front P k.pairs (flat ks) h
  each_flat_at P (suc i) (k ∷ ks) d p h = each_flat_at P i ks d (omega arith) (each_back P k.pairs (flat ks) h)

  pub each_flat_put : (P : K × V → Type 0) (i : ℕ) (ks : List (Branch K V)) (j : Branch K V) → Each P (flat ks) → Each P j.pairs → Each P (flat (slice_set ks i j))
  each_flat_put P i [] j h g = h
  each_flat_put P zero (k ∷ ks) j h g = each_append P j.pairs (flat ks) g (each_back P k.pairs (flat ks) h)
  each_flat_put P (suc i) (k ∷ ks) j h g = each_append P k.pairs (flat (slice_set ks i j)) (each_front P k.pairs (flat ks) h) (each_flat_put P i ks j (each_back P k.pairs (flat ks) h) g)

  -- a pair that has P, where there is one
  pub some_pair : {Q : Type 0} (P : K × V → Type 0) (xs : List (K × V)) → 0 < length xs → Each P xs → ((e : K × V) → P e → Q) → Q
  some_pair P [] p h f = absurd (omega arith)
  some_pair P (x ∷ xs) p h f = f x h.0

  pub some_pair_of : {Q : Type 0} (P S : K × V → Type 0) (xs : List (K × V)) → 0 < length xs → Each P xs → Each S xs → ((e : K × V) → P e → S e → Q) → Q
  some_pair_of P S [] p h g f = absurd (omega arith)
  some_pair_of P S (x ∷ xs) p h g f = f x h.0 g.0

-- ---- separators and keys in order

module _ {K : Type 0} (R : K → K → Ordering) (o : IsTotalOrder R) where
  -- s <= x < t
  pub from_under : (s x t : K) → IsFrom R s x → R x t ≡ Less → R s t ≡ Less
  from_under s x t (inl e) h = sym (o.congr x s t e) ∙ h
  from_under s x t (inr g) h = o.trans s x t (o.antisymm s x ∙ ap ordering_reverse g) h

  -- x < s <= y
  pub under_from : (x s y : K) → R x s ≡ Less → IsFrom R s y → R x y ≡ Less
  under_from x s y h (inl e) = o.antisymm x y ∙ ap ordering_reverse (o.congr y s x e ∙ o.antisymm s x ∙ ap ordering_reverse h)
  under_from x s y h (inr g) = o.trans x s y h (o.antisymm s y ∙ ap ordering_reverse g)

  -- s < t <= x
  pub from_down : (s t x : K) → R s t ≡ Less → IsFrom R t x → IsFrom R s x
  from_down s t x h f = inr (o.antisymm x s ∙ ap ordering_reverse (under_from s t x h f))

  -- x < s <= key
  pub before_sep : (key s x : K) → IsFrom R s key → R x s ≡ Less → R key x ≡ Greater
  before_sep key s x f h = o.antisymm key x ∙ ap ordering_reverse (under_from x s key h f)

  -- key < s <= x
  pub after_sep : (key s x : K) → R key s ≡ Less → IsFrom R s x → R key x ≡ Less
  after_sep key s x h f = under_from key s x h f

module _ {K : Type 0} (R : K → K → Ordering) where
  -- what holds of a separator and passes down the order holds of those before it; what passes up, of those after it
  pub rise_down : (P : K → Type 0) → ((x y : K) → R x y ≡ Less → P y → P x) → (ss : List K) (i : ℕ) (d : K) → Rises R ss → i < length ss → P (get_or ss i d) → Each P (take (suc i) ss)
  rise_down P down [] i d s p h = absurd (omega arith)
  rise_down P down (t ∷ ss) zero d s p h = (h, tt)
  rise_down P down (t ∷ ss) (suc i) d s p h =
      let q : i < length ss = omega arith in
      (down t (get_or ss i d) (each_at (λ u. R t u ≡ Less) ss i d q s.0) h, rise_down P down ss i d s.1 q h)

  pub rise_up : (P : K → Type 0) → ((x y : K) → R x y ≡ Less → P x → P y) → (ss : List K) (i : ℕ) (d : K) → Rises R ss → i < length ss → P (get_or ss i d) → Each P (drop i ss)
  rise_up P up [] i d s p h = absurd (omega arith)
  rise_up P up (t ∷ ss) zero d s p h = (h, each_map (λ u k. up t u k h) ss s.0)
  rise_up P up (t ∷ ss) (suc i) d s p h = rise_up P up ss i d s.1 (omega arith) h

-- ---- what separators say of a key's place

module _ {K V : Type 0} (R : K → K → Ordering) where
  pub rises_of : (ss : List K) (ks : List (Branch K V)) → length ss ≤ length ks → AreParted R ss ks → Rises R ss
  rises_of [] ks p h = tt
  rises_of (s ∷ ss) [] p h = absurd (omega arith)
  rises_of (s ∷ ss) (k ∷ ks) p h = (h.1, rises_of ss ks (omega arith) h.2)

  -- what passes from the separators before a place to what stands before them holds of all kids before the place
  pub lower_each : (P : K × V → Type 0) (Q : K → Type 0) → ((s : K) (e : K × V) → Q s → R e.0 s ≡ Less → P e) → (i : ℕ) (ss : List K) (ks : List (Branch K V)) → i ≤ length ss → AreParted R ss ks → Each Q (take i ss) → Each P (flat (take i ks))
  lower_each P Q f zero ss ks p h q = tt
  lower_each P Q f (suc i) [] ks p h q = absurd (omega arith)
  lower_each P Q f (suc i) (s ∷ ss) [] p h q = tt
  lower_each P Q f (suc i) (s ∷ ss) (k ∷ ks) p h q = each_append P k.pairs (flat (take i ks)) (each_map (λ e u. f s e q.0 u) k.pairs h.0.0) (lower_each P Q f i ss ks (omega arith) h.2 q.1)

  -- and from those after it to what does not stand before them, of all later kids
  pub upper_each : (P : K × V → Type 0) (Q : K → Type 0) → ((s : K) (e : K × V) → Q s → IsFrom R s e.0 → P e) → (i : ℕ) (ss : List K) (ks : List (Branch K V)) → length ks ≡ suc (length ss) → i ≤ length ss → AreParted R ss ks → Each Q (drop i ss) → Each P (flat (drop (suc i) ks))
  upper_each P Q f i ss [] n p h q = absurd (omega arith)
  upper_each P Q f zero [] (k ∷ []) n p h q = tt
  upper_each P Q f zero [] (k ∷ j ∷ ks) n p h q = absurd (omega arith)
  upper_each P Q f (suc i) [] (k ∷ ks) n p h q = absurd (omega arith)
  upper_each P Q f zero (s ∷ ss) (k ∷ ks) n p h q = each_map (λ e u. f s e q.0 u) (flat ks) h.0.1
  upper_each P Q f (suc i) (s ∷ ss) (k ∷ ks) n p h q = upper_each P Q f i ss ks (omega arith) (omega arith) h.2 q

-- ---- separators that still part

module _ {K V : Type 0} (R : K → K → Ordering) (o : IsTotalOrder R) where
  -- two kids and the separator between them
  pub parts_at : (l : ℕ) (ss : List K) (ks : List (Branch K V)) (c : K) (a b : Branch K V) → l < length ss → suc l < length ks → AreParted R ss ks → Parts R (get_or ss l c) (get_or ks l a).pairs (get_or ks (suc l) b).pairs
  parts_at l [] ks c a b p q h = absurd (omega arith)
  parts_at l (s ∷ ss) [] c a b p q h = absurd (omega arith)
  parts_at zero (s ∷ ss) (k ∷ []) c a b p q h = absurd (omega arith)
  parts_at zero (s ∷ ss) (k ∷ j ∷ ks) c a b p q h = (h.0.0, each_front (λ (e : K × V). IsFrom R s e.0) j.pairs (flat ks) h.0.1)
  parts_at (suc l) (s ∷ ss) (k ∷ ks) c a b p q h = parts_at l ss ks c a b (omega arith) (omega arith) h.2

  -- other pairs in the i-th kid, none of which passes a separator
  pub parted_put : (key : K) (i : ℕ) (ss : List K) (ks : List (Branch K V)) (d j : Branch K V) → i < length ks → ((Q : K → Type 0) → Each (λ (e : K × V). Q e.0) (get_or ks i d).pairs → Q key → Each (λ (e : K × V). Q e.0) j.pairs)
      → AreParted R ss ks → Each (λ s. IsFrom R s key) (take i ss) → Each (λ s. R key s ≡ Less) (drop i ss) → AreParted R ss (slice_set ks i j)
  parted_put key i [] ks d j p f h lo hi = tt
  parted_put key i (s ∷ ss) [] d j p f h lo hi = absurd (omega arith)
  parted_put key zero (s ∷ ss) (k ∷ ks) d j p f h lo hi = ((f (λ x. R x s ≡ Less) h.0.0 hi.0, h.0.1), h.1, h.2)
  parted_put key (suc i) (s ∷ ss) (k ∷ ks) d j p f h lo hi =
      ((h.0.0, each_flat_put (λ (e : K × V). IsFrom R s e.0) i ks j h.0.1 (f (IsFrom R s) (each_flat_at (λ (e : K × V). IsFrom R s e.0) i ks d (omega arith) h.0.1) lo.0)), h.1, parted_put key i ss ks d j (omega arith) f h.2 lo.1 hi)

  each_flat_same : (P : K × V → Type 0) (i : ℕ) (ks : List (Branch K V)) (j k : Branch K V) → i < length ks → (Each P j.pairs → Each P k.pairs) → Each P (flat (slice_set ks i j)) → Each P (flat (slice_set ks i k))
  each_flat_same P i [] j k p f h = absurd (omega arith)
  each_flat_same P zero (x ∷ ks) j k p f h = each_append P k.pairs (flat ks) (f (each_front P j.pairs (flat ks) h)) (each_back P j.pairs (flat ks) h)
  each_flat_same P (suc i) (x ∷ ks) j k p f h =
      each_append P x.pairs (flat (slice_set ks i k)) (each_front P x.pairs (flat (slice_set ks i j)) h) (each_flat_same P i ks j k (omega arith) f (each_back P x.pairs (flat (slice_set ks i j)) h))

  pub parted_same : (i : ℕ) (ss : List K) (ks : List (Branch K V)) (j k : Branch K V) → i < length ks → k.pairs ≡ j.pairs → AreParted R ss (slice_set ks i j) → AreParted R ss (slice_set ks i k)
  parted_same i [] ks j k p e h = tt
  parted_same i (s ∷ ss) [] j k p e h = absurd (omega arith)
  parted_same zero (s ∷ ss) (x ∷ ks) j k p e h = ((subst (Each (λ (e : K × V). R e.0 s ≡ Less)) (sym e) h.0.0, h.0.1), h.1, h.2)
  parted_same (suc i) (s ∷ ss) (x ∷ ks) j k p e h =
      ((h.0.0, each_flat_same (λ (e : K × V). IsFrom R s e.0) i ks j k (omega arith) (subst (Each (λ (e : K × V). IsFrom R s e.0)) (sym e)) h.0.1), h.1, parted_same i ss ks j k (omega arith) e h.2)

  each_flat_beside : (P : K × V → Type 0) (i : ℕ) (ks : List (Branch K V)) (j k : Branch K V) (b : K × Branch K V) → i < length ks → k.pairs ++ b.1.pairs ≡ j.pairs → Each P (flat (slice_set ks i j)) → Each P (flat (insert (slice_set ks i k) (suc i) b.1))
  each_flat_beside P i [] j k b p e h = absurd (omega arith)
  each_flat_beside P zero (x ∷ ks) j k b p e h =
      let both = subst (Each P) (sym e) (each_front P j.pairs (flat ks) h) in
      each_append P k.pairs (b.1.pairs ++ flat ks) (each_front P k.pairs b.1.pairs both) (each_append P b.1.pairs (flat ks) (each_back P k.pairs b.1.pairs both) (each_back P j.pairs (flat ks) h))
  each_flat_beside P (suc i) (x ∷ ks) j k b p e h =
      each_append P x.pairs (flat (insert (slice_set ks i k) (suc i) b.1)) (each_front P x.pairs (flat (slice_set ks i j)) h) (each_flat_beside P i ks j k b (omega arith) e (each_back P x.pairs (flat (slice_set ks i j)) h))

  -- a kid of the pairs j that has become two nodes, k and b, with a separator between them
  parted_two : (i : ℕ) (ss : List K) (ks : List (Branch K V)) (j k : Branch K V) (b : K × Branch K V) → i ≤ length ss → length ks ≡ suc (length ss) → 0 < length k.pairs → 0 < length b.1.pairs → k.pairs ++ b.1.pairs ≡ j.pairs → Parts R b.0 k.pairs b.1.pairs
      → AreParted R ss (slice_set ks i j) → AreParted R (insert ss i b.0) (insert (slice_set ks i k) (suc i) b.1)
  parted_two i ss [] j k b p q m n e c h = absurd (omega arith)
  parted_two zero [] (x ∷ []) j k b p q m n e c h = ((c.0, each_append (λ (e : K × V). IsFrom R b.0 e.0) b.1.pairs [] c.1 tt), tt, tt)
  parted_two zero [] (x ∷ y ∷ ks) j k b p q m n e c h = absurd (omega arith)
  parted_two zero (s ∷ ss) (x ∷ ks) j k b p q m n e c h =
      let both = subst (Each (λ (f : K × V). R f.0 s ≡ Less)) (sym e) h.0.0 in
      let lower = each_front (λ (f : K × V). R f.0 s ≡ Less) k.pairs b.1.pairs both in
      let upper = each_back (λ (f : K × V). R f.0 s ≡ Less) k.pairs b.1.pairs both in
      let below : R b.0 s ≡ Less = some_pair_of (λ (f : K × V). IsFrom R b.0 f.0) (λ (f : K × V). R f.0 s ≡ Less) b.1.pairs n c.1 upper (λ f x y. from_under R o b.0 f.0 s x y) in (
        (c.0, each_append (λ (f : K × V). IsFrom R b.0 f.0) b.1.pairs (flat ks) c.1 (each_map (λ f x. from_down R o b.0 s f.0 below x) (flat ks) h.0.1)),
        (below, each_map (λ t x. o.trans b.0 s t below x) ss h.1),
        ((upper, h.0.1), h.1, h.2),
      )
  parted_two (suc i) [] (x ∷ ks) j k b p q m n e c h = absurd (omega arith)
  parted_two (suc i) (s ∷ ss) (x ∷ ks) j k b p q m n e c h =
      let here = subst (Each (λ (f : K × V). IsFrom R s f.0)) (sym e) (each_flat_set (λ (f : K × V). IsFrom R s f.0) i ks j (omega arith) h.0.1) in
      let below : R s b.0 ≡ Less = some_pair_of (λ (f : K × V). IsFrom R s f.0) (λ (f : K × V). R f.0 b.0 ≡ Less) k.pairs m (each_front (λ (f : K × V). IsFrom R s f.0) k.pairs b.1.pairs here) c.0 (λ f x y. from_under R o s f.0 b.0 x y) in
      ((h.0.0, each_flat_beside (λ (f : K × V). IsFrom R s f.0) i ks j k b (omega arith) e h.0.1), each_insert (λ t. R s t ≡ Less) i ss b.0 h.1 below, parted_two i ss ks j k b (omega arith) (omega arith) m n e c h.2)

  -- what is known of a kid that has become one or two nodes
  abbrev pub AreTwo : Branch K V → Option (K × Branch K V) → Type 0
  AreTwo k None = Unit {0}
  AreTwo k (Some b) = (0 < length k.pairs) × (0 < length b.1.pairs) × Parts R b.0 k.pairs b.1.pairs

  pub parted_beside : (i : ℕ) (ss : List K) (ks : List (Branch K V)) (j k : Branch K V) (b : Option (K × Branch K V)) → i ≤ length ss → length ks ≡ suc (length ss) → joined k b ≡ j.pairs → AreTwo k b
      → AreParted R ss (slice_set ks i j) → AreParted R (with_separator ss i b) (with_kid (slice_set ks i k) i b)
  parted_beside i ss ks j k None p q e t h = parted_same i ss ks j k (omega arith) e h
  parted_beside i ss ks j k (Some b) p q e t h = parted_two i ss ks j k b p q t.0 t.1 e t.2 h

  -- two kids joined, the separator between them gone
  pub parted_joined : (l : ℕ) (ss : List K) (ks : List (Branch K V)) (j a b : Branch K V) → l < length ss → suc l < length ks → j.pairs ≡ (get_or ks l a).pairs ++ (get_or ks (suc l) b).pairs → AreParted R ss ks → AreParted R (remove ss l) (slice_set (remove ks (suc l)) l j)
  parted_joined l [] ks j a b p q e h = absurd (omega arith)
  parted_joined l (s ∷ ss) [] j a b p q e h = absurd (omega arith)
  parted_joined l (s ∷ ss) (x ∷ []) j a b p q e h = absurd (omega arith)
  parted_joined zero (s ∷ []) (x ∷ y ∷ ks) j a b p q e h = tt
  parted_joined zero (s ∷ t ∷ ss) (x ∷ y ∷ ks) j a b p q e h =
      let both = each_append (λ (f : K × V). R f.0 t ≡ Less) x.pairs y.pairs (each_map (λ f u. o.trans f.0 s t u h.1.0) x.pairs h.0.0) h.2.0.0 in
      ((subst (Each (λ (f : K × V). R f.0 t ≡ Less)) (sym e) both, h.2.0.1), h.2.1, h.2.2)
  parted_joined (suc l) (s ∷ ss) (x ∷ y ∷ ks) j a b p q e h =
      ((h.0.0, subst (Each (λ (f : K × V). IsFrom R s f.0)) (sym (flat_joined l (y ∷ ks) j a b (omega arith) e)) h.0.1), each_remove (λ t. R s t ≡ Less) ss l h.1, parted_joined l ss (y ∷ ks) j a b (omega arith) (omega arith) e h.2)

  -- an inner node's rows, cut at a separator
  pub parted_cut : (la : List K) (m : K) (lb : List K) (ka kb : List (Branch K V)) → length ka ≡ suc (length la) → AreParted R (la ++ m ∷ lb) (ka ++ kb) → AreParted R la ka × AreParted R lb kb × Parts R m (flat ka) (flat kb)
  parted_cut la m lb [] kb n h = absurd (omega arith)
  parted_cut [] m lb (k ∷ []) kb n h = (tt, h.2, (each_append (λ (f : K × V). R f.0 m ≡ Less) k.pairs [] h.0.0 tt, h.0.1))
  parted_cut [] m lb (k ∷ j ∷ ka) kb n h = absurd (omega arith)
  parted_cut (s ∷ la) m lb (k ∷ ka) kb n h =
      let t = parted_cut la m lb ka kb (omega arith) h.2 in
      let below : R s m ≡ Less = (each_back (λ t. R s t ≡ Less) la (m ∷ lb) h.1).0 in (
        ((h.0.0, each_front (λ (f : K × V). IsFrom R s f.0) (flat ka) (flat kb) (subst (Each (λ (f : K × V). IsFrom R s f.0)) (flat_append ka kb) h.0.1)), each_front (λ t. R s t ≡ Less) la (m ∷ lb) h.1, t.0),
        t.1,
        (each_append (λ (f : K × V). R f.0 m ≡ Less) k.pairs (flat ka) (each_map (λ f u. o.trans f.0 s m u below) k.pairs h.0.0) t.2.0, t.2.1),
      )

  below_rest : (m : K) (ss : List K) (ks : List (Branch K V)) → length ks ≡ suc (length ss) → Each (λ (k : Branch K V). 0 < length k.pairs) ks → Each (λ (f : K × V). IsFrom R m f.0) (flat ks) → AreParted R ss ks → Each (λ t. R m t ≡ Less) ss
  below_rest m [] ks n z g h = tt
  below_rest m (s ∷ ss) [] n z g h = absurd (omega arith)
  below_rest m (s ∷ ss) (k ∷ ks) n z g h =
      let below : R m s ≡ Less = some_pair_of (λ (f : K × V). IsFrom R m f.0) (λ (f : K × V). R f.0 s ≡ Less) k.pairs z.0 (each_front (λ (f : K × V). IsFrom R m f.0) k.pairs (flat ks) g) h.0.0 (λ f x y. from_under R o m f.0 s x y) in
      (below, each_map (λ t x. o.trans m s t below x) ss h.1)

  -- two inner nodes and the separator between them
  pub parted_join : (la : List K) (m : K) (lb : List K) (ka kb : List (Branch K V)) → length ka ≡ suc (length la) → length kb ≡ suc (length lb) → Each (λ (k : Branch K V). 0 < length k.pairs) ka → Each (λ (k : Branch K V). 0 < length k.pairs) kb
      → AreParted R la ka → AreParted R lb kb → Parts R m (flat ka) (flat kb) → AreParted R (la ++ m ∷ lb) (ka ++ kb)
  parted_join la m lb [] kb n u y z g h c = absurd (omega arith)
  parted_join [] m lb (k ∷ []) kb n u y z g h c = ((each_front (λ (f : K × V). R f.0 m ≡ Less) k.pairs [] c.0, c.1), below_rest m lb kb u z c.1 h, h)
  parted_join [] m lb (k ∷ j ∷ ka) kb n u y z g h c = absurd (omega arith)
  parted_join (s ∷ la) m lb (k ∷ []) kb n u y z g h c = absurd (omega arith)
  parted_join (s ∷ la) m lb (k ∷ j ∷ ka) kb n u y z g h c =
      let later = each_back (λ (f : K × V). R f.0 m ≡ Less) k.pairs (flat (j ∷ ka)) c.0 in
      let below : R s m ≡ Less = some_pair_of (λ (f : K × V). IsFrom R s f.0) (λ (f : K × V). R f.0 m ≡ Less) j.pairs y.1.0 (each_front (λ (f : K × V). IsFrom R s f.0) j.pairs (flat ka) g.0.1) (each_front (λ (f : K × V). R f.0 m ≡ Less) j.pairs (flat ka) later) (λ f x y. from_under R o s f.0 m x y) in
      let rest = parted_join la m lb (j ∷ ka) kb (omega arith) u y.1 z g.2 h (later, c.1) in (
        (g.0.0, subst (Each (λ (f : K × V). IsFrom R s f.0)) (sym (flat_append (j ∷ ka) kb)) (each_append (λ (f : K × V). IsFrom R s f.0) (flat (j ∷ ka)) (flat kb) g.0.1 (each_map (λ f x. from_down R o s m f.0 below x) (flat kb) c.1))),
        each_append (λ t. R s t ≡ Less) la (m ∷ lb) g.1 (below, each_map (λ t x. o.trans s m t below x) lb (below_rest m lb kb u z c.1 h)),
        rest,
      )
