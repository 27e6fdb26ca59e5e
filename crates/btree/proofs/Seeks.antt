-- What a seek by a point finds: in the kid that the separators lead to, or else at the end of the kid beside it.
use Rattle.std.specs.Option.{option_or}
use Rattle.std.proofs.Common.{◌≡◌, ℕ, zero, suc, ◌-◌, ◌<◌, ◌≤◌, Bool, true, false, Option, Some, None, List, [], ◌∷◌, ◌++◌, length, take, drop, get_or, refl, sym, ap, ◌∙◌, arith}
use Rattle.std.specs.List.{slice_get}
use Rattle.std.specs.Cmp.{IsTotalOrder}
use Rattle.std.specs.declared.cmp.Ordering.{Ordering}
use Rattle.std.specs.declared.cmp.Ordering.TheVariants.{Less, Equal}
use Rattle.btree.specs.Order.{Each, first_from, last_before, last_of}
use Rattle.btree.specs.Branch.{Branch}
use Rattle.btree.specs.Parts.{flat}
use Rattle.btree.specs.Rows.{IsInner}
use Rattle.btree.proofs.Order.{each_at, first_between, last_between, last_none}
use Rattle.btree.proofs.Parting.{flat_cut}
use Rattle.btree.proofs.Shapes.{kids_some}
use Rattle.btree.proofs.Walks.{flat_last, front_before, back_after}

-- ---- the ends of rows

pub get_first : {A : Type 0} (xs ys : List A) → 0 < length xs → slice_get (xs ++ ys) 0 ≡ slice_get xs 0
get_first [] ys p = absurd (omega arith)
get_first (x ∷ xs) ys p = refl

still_some : {A : Type 0} (a : Option A) (x : A) (o : Option A) → option_or (option_or a (Some x)) o ≡ option_or a (Some x)
still_some None x o = refl
still_some (Some y) x o = refl

last_some : {A : Type 0} (xs : List A) (o : Option A) → 0 < length xs → option_or (last_of xs) o ≡ last_of xs
last_some [] o p = absurd (omega arith)
last_some (x ∷ xs) o p = still_some (last_of xs) x o

pub last_of_append : {A : Type 0} (xs ys : List A) → 0 < length ys → last_of (xs ++ ys) ≡ last_of ys
last_of_append [] ys p = refl
last_of_append (x ∷ xs) ys p = ap (λ o. option_or o (Some x)) (last_of_append xs ys p) ∙ last_some ys (Some x) p

pub some_first : {A : Type 0} (xs : List A) → 0 < length xs → slice_get xs 0 ≡ None → ⊥
some_first [] p e = absurd (omega arith)
some_first (x ∷ xs) p e = absurd (cc)

or_some : {A : Type 0} (a : Option A) (x : A) → option_or a (Some x) ≡ None → ⊥
or_some None x e = absurd (cc)
or_some (Some y) x e = absurd (cc)

pub some_last : {A : Type 0} (xs : List A) → 0 < length xs → last_of xs ≡ None → ⊥
some_last [] p e = absurd (omega arith)
some_last (x ∷ xs) p e = or_some (last_of xs) x e

pub some_get : {A : Type 0} (xs : List A) (x : A) → Some x ≡ slice_get xs 0 → length xs ≡ 0 → ⊥
some_get [] x e n = absurd (cc)
some_get (y ∷ xs) x e n = omega (arith, n)

-- ---- in a leaf

module _ {K V : Type 0} (p : K → Bool) where
  first_kept : (es : List (K × V)) → Each (λ (e : K × V). p e.0 ≡ false) es → first_from p es ≡ slice_get es 0
  first_kept [] h = refl
  first_kept (e ∷ es) h = rw h.0 refl

  pub first_at : (i : ℕ) (es : List (K × V)) → Each (λ (e : K × V). p e.0 ≡ true) (take i es) → Each (λ (e : K × V). p e.0 ≡ false) (drop i es) → first_from p es ≡ slice_get es i
  first_at zero es h k = first_kept es k
  first_at (suc i) [] h k = refl
  first_at (suc i) (e ∷ es) h k = rw h.0 (first_at i es h.1 k)

  last_all : (es : List (K × V)) → Each (λ (e : K × V). p e.0 ≡ true) es → last_before p es ≡ last_of es
  last_all [] h = refl
  last_all (e ∷ es) h = rw (last_all es h.1, h.0) refl

  pub last_at : (i : ℕ) (es : List (K × V)) → Each (λ (e : K × V). p e.0 ≡ true) (take i es) → Each (λ (e : K × V). p e.0 ≡ false) (drop i es) → last_before p es ≡ last_of (take i es)
  last_at zero es h k = last_none p es k
  last_at (suc i) [] h k = refl
  last_at (suc i) (e ∷ es) h k = rw (last_at i es h.1 k, h.0) refl

-- ---- at the ends of kids

module _ {K V : Type 0} where
  pub first_after : (i : ℕ) (ks : List (Branch K V)) (k : Branch K V) → i < length ks → Each (λ (k : Branch K V). 0 < length k.pairs) ks → k ≡ get_or ks i k → slice_get (flat (drop i ks)) 0 ≡ slice_get k.pairs 0
  first_after i [] k p z e = absurd (omega arith)
  first_after zero (x ∷ ks) k p z e = get_first x.pairs (flat ks) z.0 ∙ ap (λ (b : Branch K V). slice_get b.pairs 0) (sym e)
  first_after (suc i) (x ∷ ks) k p z e = first_after i ks k (omega arith) z.1 e

  pub none_after : (i : ℕ) (ks : List (Branch K V)) → length ks ≤ i → slice_get (flat (drop i ks)) 0 ≡ None
  none_after zero [] p = refl
  none_after (suc i) [] p = refl
  none_after zero (k ∷ ks) p = absurd (omega arith)
  none_after (suc i) (k ∷ ks) p = none_after i ks (omega arith)

  pub first_in_first : (ks : List (Branch K V)) (k : Branch K V) → Each (λ (k : Branch K V). 0 < length k.pairs) ks → Some k ≡ slice_get ks 0 → slice_get (flat ks) 0 ≡ slice_get k.pairs 0
  first_in_first [] k z e = absurd (cc)
  first_in_first (x ∷ ks) k z e = let same : x ≡ k = cc in get_first x.pairs (flat ks) z.0 ∙ ap (λ (b : Branch K V). slice_get b.pairs 0) same

  pub last_in_last : (n : ℕ) (ks : List (Branch K V)) (k : Branch K V) → length ks ≡ suc n → Each (λ (k : Branch K V). 0 < length k.pairs) ks → k ≡ get_or ks n k → last_of (flat ks) ≡ last_of k.pairs
  last_in_last n ks k e z is =
      let less : length ks - 1 ≡ n = omega arith in
      ap last_of (flat_last ks k (omega arith))
      ∙ last_of_append (flat (take (length ks - 1) ks)) (get_or ks (length ks - 1) k).pairs (each_at (λ (k : Branch K V). 0 < length k.pairs) ks (length ks - 1) k (omega arith) z)
      ∙ ap (λ m. last_of (get_or ks m k).pairs) less ∙ ap (λ (b : Branch K V). last_of b.pairs) (sym is)

  taken : (i : ℕ) (ks : List (Branch K V)) → i ≤ length ks → length (take i ks) ≡ i
  taken zero ks p = refl
  taken (suc i) [] p = absurd (omega arith)
  taken (suc i) (k ∷ ks) p = ap suc (taken i ks (omega arith))

  each_taken : (P : Branch K V → Type 0) (i : ℕ) (ks : List (Branch K V)) → Each P ks → Each P (take i ks)
  each_taken P zero ks h = tt
  each_taken P (suc i) [] h = tt
  each_taken P (suc i) (k ∷ ks) h = (h.0, each_taken P i ks h.1)

  get_taken : (i j : ℕ) (ks : List (Branch K V)) (d : Branch K V) → j < i → get_or (take i ks) j d ≡ get_or ks j d
  get_taken zero j ks d p = absurd (omega arith)
  get_taken (suc i) j [] d p = refl
  get_taken (suc i) zero (k ∷ ks) d p = refl
  get_taken (suc i) (suc j) (k ∷ ks) d p = get_taken i j ks d (omega arith)

  -- the last pair before a kid is that of the kid before it
  pub last_ahead : (i : ℕ) (ks : List (Branch K V)) (k : Branch K V) → 0 < i → i < length ks → Each (λ (k : Branch K V). 0 < length k.pairs) ks → k ≡ get_or ks (i - 1) k → last_of (flat (take i ks)) ≡ last_of k.pairs
  last_ahead i ks k p q z e =
      last_in_last (i - 1) (take i ks) k (taken i ks (omega arith) ∙ (let n : i ≡ suc (i - 1) = omega arith in n)) (each_taken (λ (k : Branch K V). 0 < length k.pairs) i ks z) (e ∙ sym (get_taken i (i - 1) ks k (omega arith)))

-- ---- in an inner node

module _ {K V : Type 0} (R : K → K → Ordering) (o : IsTotalOrder R) (p : K → Bool) (down : (x y : K) → R x y ≡ Less → p y ≡ true → p x ≡ true) (tied : (x y : K) → R x y ≡ Equal → p x ≡ p y) (ss : List K) (ks : List (Branch K V)) (inner : IsInner R ss ks)
    (i : ℕ) (d : Branch K V) (in_range : i ≤ length ss) (low : i < length ks) (before : Each (λ s. p s ≡ true) (take i ss)) (after : Each (λ s. p s ≡ false) (drop i ss)) where
  pub some_kids : Each (λ (k : Branch K V). 0 < length k.pairs) ks
  some_kids = kids_some inner.level ks inner.kids

  pub first_in_kids : first_from p (flat ks) ≡ option_or (first_from p (get_or ks i d).pairs) (slice_get (flat (drop (suc i) ks)) 0)
  first_in_kids =
      ap (first_from p) (flat_cut i ks d low)
      ∙ first_between p (flat (take i ks)) (get_or ks i d).pairs (flat (drop (suc i) ks)) (front_before R o p down tied ss ks inner i d in_range low before after)
      ∙ ap (option_or (first_from p (get_or ks i d).pairs)) (first_kept p (flat (drop (suc i) ks)) (back_after R o p down tied ss ks inner i d in_range low before after))

  pub last_in_kids : last_before p (flat ks) ≡ option_or (last_before p (get_or ks i d).pairs) (last_of (flat (take i ks)))
  last_in_kids =
      ap (last_before p) (flat_cut i ks d low)
      ∙ last_between p (flat (take i ks)) (get_or ks i d).pairs (flat (drop (suc i) ks)) (back_after R o p down tied ss ks inner i d in_range low before after)
      ∙ ap (option_or (last_before p (get_or ks i d).pairs)) (last_all p (flat (take i ks)) (front_before R o p down tied ss ks inner i d in_range low before after))
