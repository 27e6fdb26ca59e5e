-- A stretch of pairs taken out of a leaf.
use Rattle.std.proofs.lemmas.List.{length-set, drop-take, drop-drop, drop_all}
use Rattle.std.proofs.lemmas.List.Edits.{length-remove, split_between, between_none}
use Rattle.std.proofs.lemmas.Bool.{cases_lt}
use Rattle.std.proofs.Common.{◌≡◌, ◌⊎◌, ⊎_elim, inl, inr, ℕ, zero, suc, ◌+◌, ◌-◌, ◌<◌, ◌≤◌, Bool, true, false, cond, Option, Some, None, Ok, Err, IfSome, OnOk, List, [], ◌∷◌, ◌++◌, length, take, drop, slice_set, get_or, max, refl, sym, ap, subst, ◌∙◌, arith, append_assoc, length-append}
use Rattle.std.specs.Prelude.{Result}
use Rattle.std.specs.List.{remove, between, remove_range}
use Rattle.std.specs.Cmp.{IsTotalOrder}
use Rattle.std.specs.declared.cmp.Ordering.{Ordering}
use Rattle.std.specs.declared.cmp.Ordering.TheVariants.{Less}
use Rattle.btree.specs.Order.{Each, Ascends, last_of}
use Rattle.btree.specs.Branch.{Branch}
use Rattle.btree.specs.Parts.{IsFrom, flat, AreParted}
use Rattle.btree.specs.Rows.{height_of, branch_of, IsKid, IsInner, IsLoose, HasBecome, with_separator, with_kid}
use Rattle.btree.specs.Stretch.{is_in_run, IsStretch, IsRun, lessened, IsMended, HasLost}
use Rattle.btree.proofs.Order.{each_map, each_append, each_front, each_back, each_at, each_set, ascends_back, not_before_up}
use Rattle.btree.proofs.Parting.{each_remove, flat_cut, flat_set, flat_beside, flat_joined, each_flat_put, each_flat_at, parted_beside, parted_joined}
use Rattle.btree.proofs.Shapes.{one_power, kid_long, kid_some, height_kids, inner_height, inner_full, kid_at}
use Rattle.btree.proofs.Growth.{joined_become, two_become, kids_beside, length_beside, longer, one_longer}
use Rattle.btree.proofs.Leaves.{each_at_end, last_kept}
use Rattle.btree.proofs.Removal.{but_made}
use Rattle.btree.proofs.Ranges.{each_less, length_less}

-- ---- the run in a leaf

pub outside_after : (f t : Bool) → t ≡ false → cond f false t ≡ false
outside_after true t e = refl
outside_after false t e = e

pub outside_ahead : (f t : Bool) → f ≡ true → cond f false t ≡ false
outside_ahead true t e = refl
outside_ahead false t e = absurd (cc)

inside_both : (f t : Bool) → f ≡ false → t ≡ true → cond f false t ≡ true
inside_both true t e h = absurd (cc)
inside_both false t e h = h

not_to : (f t : Bool) → f ≡ false → cond f false t ≡ false → t ≡ false
not_to true t e h = absurd (cc)
not_to false t e h = h

each_both : {A : Type 0} {P Q S : A → Type 0} → ((x : A) → P x → Q x → S x) → (xs : List A) → Each P xs → Each Q xs → Each S xs
each_both f [] h k = tt
each_both f (x ∷ xs) h k = (f x h.0 k.0, each_both f xs h.1 k.1)

module _ {K V : Type 0} (from to : K → Bool) where
  pub run_of : (es : List (K × V)) (i n j : ℕ) → i ≤ length es → n ≤ length es → (((i ≤ n) × (j ≡ n)) ⊎ ((n ≤ i) × (j ≡ i))) → Each (λ (e : K × V). from e.0 ≡ true) (take i es) → Each (λ (e : K × V). from e.0 ≡ false) (drop i es) → Each (λ (e : K × V). to e.0 ≡ true) (take n es) → Each (λ (e : K × V). to e.0 ≡ false) (drop n es) → IsRun from to es i j
  run_of es i n j p q (inl c) ahead on under after =
      let e : i + (n - i) ≡ n = omega (arith, c.0) in
      let behind : Each (λ (e : K × V). from e.0 ≡ false) (between i n es) = (each_at_end (λ (e : K × V). from e.0 ≡ false) (n - i) (drop i es) on).0 in
      let below : Each (λ (e : K × V). to e.0 ≡ true) (between i n es) = subst (Each (λ (e : K × V). to e.0 ≡ true)) (ap (λ m. drop i (take m es)) (sym e) ∙ drop-take i (n - i) es) (each_at_end (λ (e : K × V). to e.0 ≡ true) i (take n es) under).1 in
      subst (IsRun from to es i) (sym c.1) record {
        order = c.0;
        in_range = q;
        ahead = ahead;
        inside = each_both (λ x a b. inside_both (from x.0) (to x.0) a b) (between i n es) behind below;
        after = each_map (λ x b. outside_after (from x.0) (to x.0) b) (drop n es) after;
      }
  run_of es i n j p q (inr c) ahead on under after =
      let e : n + (i - n) ≡ i = omega (arith, c.0) in
      let later : Each (λ (e : K × V). to e.0 ≡ false) (drop i es) = subst (Each (λ (e : K × V). to e.0 ≡ false)) (drop-drop (i - n) n es ∙ ap (λ m. drop m es) e) (each_at_end (λ (e : K × V). to e.0 ≡ false) (i - n) (drop n es) after).1 in
      subst (IsRun from to es i) (sym c.1) record {
        order = omega arith;
        in_range = p;
        ahead = ahead;
        inside = subst (Each (λ (e : K × V). is_in_run from to e ≡ true)) (sym (between_none es i)) tt;
        after = each_map (λ x b. outside_after (from x.0) (to x.0) b) (drop i es) later;
      }

  pub leaf_stretch : (es : List (K × V)) (i j : ℕ) → IsRun from to es i j → IsStretch from to es (j - i) (remove_range es i j)
  leaf_stretch es i j r = record {
    front = take i es;
    stretch = between i j es;
    back = drop j es;
    was = split_between es i j r.order;
    is = refl;
    size =
        let whole = ap length (split_between es i j r.order) in
        let less = length_less es i j r.order r.in_range in
        omega (arith, whole, less, length-append (take i es) (between i j es ++ drop j es), length-append (between i j es) (drop j es), length-append (take i es) (drop j es));
    ahead = r.ahead;
    inside = r.inside;
    last = λ _. r.after;
  }

-- ---- what a stretch leaves

nothing : {A : Type 0} (xs : List A) → length xs ≡ 0 → xs ≡ []
nothing [] e = refl
nothing (x ∷ xs) e = absurd (omega (arith, e))

module _ {K V : Type 0} (from to : K → Bool) (old : List (K × V)) (count : ℕ) (new : List (K × V)) (s : IsStretch from to old count new) where
  pub each_left : (P : K × V → Type 0) → Each P old → Each P new
  each_left P h =
      let all = subst (Each P) s.was h in
      subst (Each P) (sym s.is) (each_append P s.front s.back (each_front P s.front (s.stretch ++ s.back) all) (each_back P s.stretch s.back (each_back P s.front (s.stretch ++ s.back) all)))

  pub length_left : length new + count ≡ length old
  length_left =
      let a = ap length s.was in
      let b = ap length s.is in
      let n = s.size in
      omega (arith, a, b, n, length-append s.front (s.stretch ++ s.back), length-append s.stretch s.back, length-append s.front s.back)

pub ascends_parts : {K V : Type 0} (R : K → K → Ordering) (xs ys zs : List (K × V)) → Ascends R (xs ++ (ys ++ zs)) → Ascends R (xs ++ zs)
ascends_parts R [] ys zs h = ascends_back R ys zs h
ascends_parts {K} {V} R (x ∷ xs) ys zs h =
    let all = h.0 in
    let P = λ (f : K × V). R x.0 f.0 ≡ Less in
    (each_append P xs zs (each_front P xs (ys ++ zs) all) (each_back P ys zs (each_back P xs (ys ++ zs) all)), ascends_parts R xs ys zs h.1)

pub ascends_left : {K V : Type 0} (R : K → K → Ordering) (from to : K → Bool) (old : List (K × V)) (count : ℕ) (new : List (K × V)) → IsStretch from to old count new → Ascends R old → Ascends R new
ascends_left R from to old count new s h = subst (Ascends R) (sym s.is) (ascends_parts R s.front s.stretch s.back (subst (Ascends R) s.was h))

-- ---- the last pair of a row, and what comes after it

each_last : {A : Type 0} (P : A → Type 0) (xs : List A) → Each P xs → IfSome (last_of xs) P
each_last P [] h = tt
each_last P (x ∷ []) h = h.0
each_last P (x ∷ y ∷ xs) h = subst (λ l. IfSome l P) (sym (last_kept (last_of xs) y x)) (each_last P (y ∷ xs) h.1)

if_both : {A : Type 0} {P Q S : A → Type 0} (a : Option A) → ((x : A) → P x → Q x → S x) → IfSome a P → IfSome a Q → IfSome a S
if_both None f p q = tt
if_both (Some x) f p q = f x p q

module _ {K V : Type 0} (R : K → K → Ordering) where
  -- what holds of the last pair and passes up the order holds of all later ones, and what passes down, of all before
  after_last : (P : K × V → Type 0) → ((x y : K × V) → R x.0 y.0 ≡ Less → P x → P y) → (xs ys : List (K × V)) → 0 < length xs → Ascends R (xs ++ ys) → IfSome (last_of xs) P → Each P ys
  after_last P up [] ys p s h = absurd (omega arith)
  after_last P up (x ∷ []) ys p s h = each_map (λ y r. up x y r h) ys s.0
  after_last P up (x ∷ y ∷ xs) ys p s h = after_last P up (y ∷ xs) ys (omega arith) s.1 (subst (λ l. IfSome l P) (last_kept (last_of xs) y x) h)

  pub before_last : (P : K × V → Type 0) → ((x y : K × V) → R x.0 y.0 ≡ Less → P y → P x) → (xs : List (K × V)) → Ascends R xs → IfSome (last_of xs) P → Each P xs
  before_last P down [] s h = tt
  before_last P down (x ∷ []) s h = (h, tt)
  before_last P down (x ∷ y ∷ xs) s h =
      let t = before_last P down (y ∷ xs) s.1 (subst (λ l. IfSome l P) (last_kept (last_of xs) y x) h) in
      (down x y s.0.0 t.0, t)

-- ---- a kid that has lost a stretch

module _ {K V : Type 0} (R : K → K → Ordering) where
  each_flat_less : (P : K × V → Type 0) (i : ℕ) (ks : List (Branch K V)) (d j : Branch K V) → i < length ks → (Each P (get_or ks i d).pairs → Each P j.pairs) → Each P (flat ks) → Each P (flat (slice_set ks i j))
  each_flat_less P i ks d j p f h = each_flat_put P i ks j h (f (each_flat_at P i ks d p h))

  pub parted_less : (i : ℕ) (ss : List K) (ks : List (Branch K V)) (d j : Branch K V) → i < length ks → ((P : K × V → Type 0) → Each P (get_or ks i d).pairs → Each P j.pairs) → AreParted R ss ks → AreParted R ss (slice_set ks i j)
  parted_less i [] ks d j p f h = tt
  parted_less i (s ∷ ss) [] d j p f h = absurd (omega arith)
  parted_less zero (s ∷ ss) (k ∷ ks) d j p f h = ((f (λ (e : K × V). R e.0 s ≡ Less) h.0.0, h.0.1), h.1, h.2)
  parted_less (suc i) (s ∷ ss) (k ∷ ks) d j p f h =
      ((h.0.0, each_flat_less (λ (e : K × V). IsFrom R s e.0) i ks d j (omega arith) (f (λ (e : K × V). IsFrom R s e.0)) h.0.1), h.1, parted_less i ss ks d j (omega arith) f h.2)

around : {A : Type 0} (us fs gs bs ds : List A) → us ++ ((fs ++ (gs ++ bs)) ++ ds) ≡ (us ++ fs) ++ (gs ++ (bs ++ ds))
around us fs gs bs ds =
    ap (λ zs. us ++ zs) (append_assoc fs (gs ++ bs) ds ∙ ap (λ zs. fs ++ zs) (append_assoc gs bs ds)) ∙ sym (append_assoc us fs (gs ++ (bs ++ ds)))

around_left : {A : Type 0} (us fs bs ds : List A) → us ++ ((fs ++ bs) ++ ds) ≡ (us ++ fs) ++ (bs ++ ds)
around_left us fs bs ds = ap (λ zs. us ++ zs) (append_assoc fs bs ds) ∙ sym (append_assoc us fs (bs ++ ds))

module _ {K V : Type 0} (R : K → K → Ordering) (from to : K → Bool) (down : (x y : K) → R x y ≡ Less → to y ≡ true → to x ≡ true) (ss : List K) (ks : List (Branch K V)) (inner : IsInner R ss ks) (i : ℕ) (d : Branch K V) (low : i < length ks) (sorted : Ascends R (flat ks))
    (ahead : Each (λ (e : K × V). from e.0 ≡ true) (flat (take i ks))) (reaches : i + 1 < length ks → IfSome (last_of (get_or ks i d).pairs) (λ e. from e.0 ≡ false)) where
  here_on : Ascends R ((get_or ks i d).pairs ++ flat (drop (suc i) ks))
  here_on = ascends_back R (flat (take i ks)) ((get_or ks i d).pairs ++ flat (drop (suc i) ks)) (subst (Ascends R) (flat_cut i ks d low) sorted)

  pub kid_stretch : (count : ℕ) (k : Branch K V) → IsStretch from to (get_or ks i d).pairs count k.pairs → IsStretch from to (flat ks) count (flat (slice_set ks i k))
  kid_stretch count k s = record {
    front = flat (take i ks) ++ s.front;
    stretch = s.stretch;
    back = s.back ++ flat (drop (suc i) ks);
    was = flat_cut i ks d low ∙ ap (λ zs. flat (take i ks) ++ (zs ++ flat (drop (suc i) ks))) s.was ∙ around (flat (take i ks)) s.front s.stretch s.back (flat (drop (suc i) ks));
    is = flat_set i ks k low ∙ ap (λ zs. flat (take i ks) ++ (zs ++ flat (drop (suc i) ks))) s.is ∙ around_left (flat (take i ks)) s.front s.back (flat (drop (suc i) ks));
    size = s.size;
    ahead = each_append (λ (e : K × V). from e.0 ≡ true) (flat (take i ks)) s.front ahead s.ahead;
    inside = s.inside;
    last = λ e. each_append outside s.back (flat (drop (suc i) ks)) (s.last e) (later e);
  }
    where
      outside : K × V → Type 0
      outside e = is_in_run from to e ≡ false

      later : count ≡ 0 → Each outside (flat (drop (suc i) ks))
      later e =
          let here : Each outside (get_or ks i d).pairs = subst (Each outside) (sym (s.was ∙ ap (λ zs. s.front ++ (zs ++ s.back)) (nothing s.stretch (s.size ∙ e)))) (each_append outside s.front s.back (each_map (λ x a. outside_ahead (from x.0) (to x.0) a) s.front s.ahead) (s.last e)) in
          ⊎_elim (λ p.
          let at_end : IfSome (last_of (get_or ks i d).pairs) (λ (e : K × V). to e.0 ≡ false) = if_both (last_of (get_or ks i d).pairs) (λ x a b. not_to (from x.0) (to x.0) a b) (reaches (omega (arith, p))) (each_last outside (get_or ks i d).pairs here) in
          each_map (λ x b. outside_after (from x.0) (to x.0) b) (flat (drop (suc i) ks))
          (after_last R (λ (e : K × V). to e.0 ≡ false) (λ x y. not_before_up R to down x.0 y.0) (get_or ks i d).pairs (flat (drop (suc i) ks)) (kid_some inner.level (get_or ks i d) (each_at (IsKid 16 inner.level) ks i d low inner.kids)) here_on at_end))
          (λ p. subst (λ zs. Each outside (flat zs)) (sym (drop_all (suc i) ks p)) tt) (cases_lt (suc i) (length ks))

pub run_at : {K V : Type 0} (from to : K → Bool) (es : List (K × V)) (i n j : ℕ) → j ≡ max n i → i ≤ length es → n ≤ length es → Each (λ (e : K × V). from e.0 ≡ true) (take i es) → Each (λ (e : K × V). from e.0 ≡ false) (drop i es) → Each (λ (e : K × V). to e.0 ≡ true) (take n es) → Each (λ (e : K × V). to e.0 ≡ false) (drop n es) → IsRun from to es i j
run_at from to es i n j e p q a b c d =
    ⊎_elim (λ l. let f : j ≡ i = omega (arith, e, l) in run_of from to es i n j p q (inr (omega (arith, l), f)) a b c d)
    (λ l. let f : j ≡ n = omega (arith, e, l) in run_of from to es i n j p q (inl (l, f)) a b c d) (cases_lt n i)

-- ---- two leaves side by side that have lost pairs

get_set : {A : Type 0} (xs : List A) (i : ℕ) (x d : A) → i < length xs → get_or (slice_set xs i x) i d ≡ x
get_set [] i x d p = absurd (omega arith)
get_set (z ∷ xs) zero x d p = refl
get_set (z ∷ xs) (suc i) x d p = get_set xs i x d (omega arith)

get_beside : {A : Type 0} (xs : List A) (i : ℕ) (x d : A) → get_or (slice_set xs (suc i) x) i d ≡ get_or xs i d
get_beside [] i x d = refl
get_beside (z ∷ xs) zero x d = refl
get_beside (z ∷ xs) (suc i) x d = get_beside xs i x d

get_after : {A : Type 0} (xs : List A) (i : ℕ) (x d : A) → get_or (slice_set xs i x) (suc i) d ≡ get_or xs (suc i) d
get_after [] i x d = refl
get_after (z ∷ xs) zero x d = refl
get_after (z ∷ xs) (suc i) x d = get_after xs i x d

set_over : {A : Type 0} (xs : List A) (i : ℕ) (x y z : A) → suc i < length xs → slice_set (remove (slice_set (slice_set xs i x) (suc i) y) (suc i)) i z ≡ slice_set (remove xs (suc i)) i z
set_over [] i x y z p = absurd (omega arith)
set_over (w ∷ []) i x y z p = absurd (omega arith)
set_over (w ∷ v ∷ xs) zero x y z p = refl
set_over (w ∷ v ∷ xs) (suc i) x y z p = ap (λ zs. w ∷ zs) (set_over (v ∷ xs) i x y z (omega arith))

module _ {K V : Type 0} where
  -- a kid in place of another with the same pairs
  pub flat_lower_kept : (l : ℕ) (ks : List (Branch K V)) (x y d : Branch K V) → l < length ks → x.pairs ≡ (get_or ks l d).pairs → flat (slice_set (slice_set ks l x) (suc l) y) ≡ flat (slice_set ks (suc l) y)
  flat_lower_kept l [] x y d p e = absurd (omega arith)
  flat_lower_kept zero (k ∷ ks) x y d p e = ap (λ zs. zs ++ flat (slice_set ks 0 y)) e
  flat_lower_kept (suc l) (k ∷ ks) x y d p e = ap (λ zs. k.pairs ++ zs) (flat_lower_kept l ks x y d (omega arith) e)

  flat_one_kept : (l : ℕ) (ks : List (Branch K V)) (y d : Branch K V) → l < length ks → y.pairs ≡ (get_or ks l d).pairs → flat (slice_set ks l y) ≡ flat ks
  flat_one_kept l [] y d p e = absurd (omega arith)
  flat_one_kept zero (k ∷ ks) y d p e = ap (λ zs. zs ++ flat ks) e
  flat_one_kept (suc l) (k ∷ ks) y d p e = ap (λ zs. k.pairs ++ zs) (flat_one_kept l ks y d (omega arith) e)

  pub flat_upper_kept : (l : ℕ) (ks : List (Branch K V)) (x y d : Branch K V) → suc l < length ks → y.pairs ≡ (get_or ks (suc l) d).pairs → flat (slice_set (slice_set ks l x) (suc l) y) ≡ flat (slice_set ks l x)
  flat_upper_kept l ks x y d p e = flat_one_kept (suc l) (slice_set ks l x) y d (omega (arith, length-set ks l x)) (e ∙ ap (λ (b : Branch K V). b.pairs) (sym (get_after ks l x d)))

module _ {K V : Type 0} (R : K → K → Ordering) (o : IsTotalOrder R) (ss : List K) (ks : List (Branch K V)) (inner : IsInner R ss ks) (l : ℕ) (in_range : l < length ss) (x y a b k : Branch K V) (c : Option (K × Branch K V))
    (lower_less : (P : K × V → Type 0) → Each P (get_or ks l a).pairs → Each P x.pairs) (upper_less : (P : K × V → Type 0) → Each P (get_or ks (suc l) b).pairs → Each P y.pairs) (become : HasBecome R 16 inner.level (x.pairs ++ y.pairs) k c) where
  low_kid : suc l < length ks
  low_kid = let f = inner.fits in omega (arith, f, in_range)

  abbrev less : List (Branch K V)
  less = slice_set (slice_set ks l x) (suc l) y

  abbrev both : Branch K V
  both = record { pairs = x.pairs ++ y.pairs; height = 0; count = 0; sizes = [] }

  less_long : length less ≡ length ks
  less_long = length-set (slice_set ks l x) (suc l) y ∙ length-set ks l x

  less_parted : AreParted R ss less
  less_parted =
      let p = low_kid in
      let q = length-set ks l x in
      parted_less R (suc l) ss (slice_set ks l x) b y (omega (arith, p, q)) (λ P h. upper_less P (subst (λ (j : Branch K V). Each P j.pairs) (get_after ks l x b) h)) (parted_less R l ss ks a x (omega (arith, p)) lower_less inner.parted)

  both_is : both.pairs ≡ (get_or less l a).pairs ++ (get_or less (suc l) b).pairs
  both_is =
      let p = low_kid in
      let q = length-set ks l x in
      let lower : get_or less l a ≡ x = get_beside (slice_set ks l x) l y a ∙ get_set ks l x a (omega (arith, p)) in
      let upper : get_or less (suc l) b ≡ y = get_set (slice_set ks l x) (suc l) y b (omega (arith, p, q)) in
      ap (λ (j : Branch K V). j.pairs ++ y.pairs) (sym lower) ∙ ap (λ (j : Branch K V). (get_or less l a).pairs ++ j.pairs) (sym upper)

  fewer : length (remove ss l) + 1 ≡ length ss
  fewer = length-remove ss l in_range

  fewer_kids : length (remove ks (suc l)) + 1 ≡ length ks
  fewer_kids = length-remove ks (suc l) low_kid

  same_both : slice_set (remove ks (suc l)) l both ≡ slice_set (remove less (suc l)) l both
  same_both = sym (set_over ks l x y both low_kid)

  pub lost_pairs : flat (with_kid (slice_set (remove ks (suc l)) l k) l c) ≡ flat less
  lost_pairs =
      let p = low_kid in
      let q = fewer_kids in
      let n = less_long in
      flat_beside l (remove ks (suc l)) k c (omega (arith, p, q))
      ∙ ap (λ zs. flat (take l (remove ks (suc l))) ++ (zs ++ flat (drop (suc l) (remove ks (suc l))))) (joined_become R 16 inner.level (x.pairs ++ y.pairs) k c become)
      ∙ sym (flat_set l (remove ks (suc l)) both (omega (arith, p, q)))
      ∙ ap flat same_both
      ∙ flat_joined l less both a b (omega (arith, n, p)) both_is

  lost_kids : Each (IsKid 16 inner.level) (with_kid (slice_set (remove ks (suc l)) l k) l c)
  lost_kids = kids_beside R 16 inner.level l (remove ks (suc l)) (x.pairs ++ y.pairs) k c (omega arith) (λ t. each_set (IsKid 16 inner.level) (remove ks (suc l)) l k (each_remove (IsKid 16 inner.level) ks (suc l) inner.kids) t) become

  lost_fit : length (with_kid (slice_set (remove ks (suc l)) l k) l c) ≡ suc (length (with_separator (remove ss l) l c))
  lost_fit =
      let m = inner.fits in
      let p = low_kid in
      let r = fewer in
      let s = fewer_kids in
      let t = length-set (remove ks (suc l)) l k in
      length_beside l (remove ss l) (slice_set (remove ks (suc l)) l k) c (omega (arith, in_range, r)) (omega (arith, p, s, t)) (omega (arith, m, r, s, t))

  pub lost_mended : IsMended R ss ks (with_separator (remove ss l) l c) (with_kid (slice_set (remove ks (suc l)) l k) l c)
  lost_mended =
      let m = inner.fits in
      let p = low_kid in
      let r = fewer in
      let s = fewer_kids in
      let n = less_long in
      let f = lost_fit in
      let more = longer l (remove ss l) c (omega (arith, in_range, r)) in
      let most = one_longer l (remove ss l) c (omega (arith, in_range, r)) in
      record {
        node = record {
          level = inner.level;
          fits = lost_fit;
          kids = lost_kids;
          parted = parted_beside R o l (remove ss l) (remove ks (suc l)) both k c (omega (arith, in_range, r)) (omega (arith, m, r, s)) (joined_become R 16 inner.level (x.pairs ++ y.pairs) k c become) (two_become R o 16 inner.level (x.pairs ++ y.pairs) k c become)
              (subst (AreParted R (remove ss l)) (sym same_both) (parted_joined R o l ss less both a b in_range (omega (arith, n, p)) both_is less_parted));
        };
        height = height_kids inner.level (with_kid (slice_set (remove ks (suc l)) l k) l c) (omega (arith, f)) lost_kids ∙ sym (inner_height R ss ks inner);
        most = omega (arith, most, r);
        least = omega (arith, more, r);
      }

-- ---- a leaf that has pairs enough left

module _ {K V : Type 0} (R : K → K → Ordering) (ss : List K) (ks : List (Branch K V)) (inner : IsInner R ss ks) (at : ℕ) (low : at < length ks) (d k : Branch K V) where
  pub kept_mended : IsKid 16 inner.level k → ((P : K × V → Type 0) → Each P (get_or ks at d).pairs → Each P k.pairs) → IsMended R ss ks ss (slice_set ks at k)
  kept_mended kid less =
      let n = length-set ks at k in
      let m = inner.fits in
      let kids = each_set (IsKid 16 inner.level) ks at k inner.kids kid in
      record {
        node = record { level = inner.level; fits = omega (arith, n, m); kids = kids; parted = parted_less R at ss ks d k low less inner.parted };
        height = height_kids inner.level (slice_set ks at k) (omega (arith, n, low)) kids ∙ sym (inner_height R ss ks inner);
        most = omega arith;
        least = omega arith;
      }

  -- a kid that may have a separator too few
  pub lost_loose : HasLost (get_or ks at d) k → 0 < (get_or ks at d).height → ((P : K × V → Type 0) → Each P (get_or ks at d).pairs → Each P k.pairs) → IsLoose R at ss (slice_set ks at k)
  lost_loose lost high less =
      let kid = kid_at R at ss ks d inner low in
      let height = inner_height R ss ks inner in
      let level : (get_or ks at d).height ≡ inner.level = omega (arith, kid.0, height) in
      let set = length-set ks at k in
      record {
        level = inner.level;
        fits = (let f = inner.fits in omega (arith, f, set));
        kids = but_made inner.level at ks k low inner.kids
            record { level = lost.level ∙ level; least = (let a = lost.least high in let b = kid.1.least in omega (arith, a, b)); most = (let a = lost.most in let b = kid.1.most in omega (arith, a, b)); full = lost.full };
        parted = parted_less R at ss ks d k low less inner.parted;
      }

-- an inner node that has lost at most one separator
pub lost_inner : {K V : Type 0} (R : K → K → Ordering) (b : Branch K V) (ss : List K) (ks : List (Branch K V)) (ts : List K) (gs : List (Branch K V)) → IsMended R ss ks ts gs → b.height ≡ height_of ks → b.count ≡ length ss → HasLost b (branch_of [] ts gs)
lost_inner R b ss ks ts gs m h c =
    let p = m.most in
    let q = m.least in
    record { level = m.height ∙ sym h; most = omega (arith, c, p); least = λ _. omega (arith, c, q); full = inner_full R ts gs m.node }

-- ---- the kid that a point leads to

module _ {K V : Type 0} where
  pub ahead_more : (P : K × V → Type 0) (i : ℕ) (ks : List (Branch K V)) (d : Branch K V) → i < length ks → Each P (flat (take i ks)) → Each P (get_or ks i d).pairs → Each P (flat (take (suc i) ks))
  ahead_more P i [] d p h k = absurd (omega arith)
  ahead_more P zero (x ∷ ks) d p h k = each_append P x.pairs [] k tt
  ahead_more P (suc i) (x ∷ ks) d p h k = each_append P x.pairs (flat (take (suc i) ks)) (each_front P x.pairs (flat (take i ks)) h) (ahead_more P i ks d (omega arith) (each_back P x.pairs (flat (take i ks)) h) k)

  pub last_later : (P : K × V → Type 0) (i : ℕ) (ks : List (Branch K V)) (d : Branch K V) → i < length ks → Each P (flat (drop i ks)) → IfSome (last_of (get_or ks i d).pairs) P
  last_later P i [] d p h = absurd (omega arith)
  last_later P zero (x ∷ ks) d p h = each_last P x.pairs (each_front P x.pairs (flat ks) h)
  last_later P (suc i) (x ∷ ks) d p h = last_later P i ks d (omega arith) h

-- ---- two leaves, each without some pairs

pub ascends_lessened : {K V : Type 0} (R : K → K → Ordering) (xs ys : List (K × V)) (i j m n : ℕ) → i ≤ j → m ≤ n → Ascends R (xs ++ ys) → Ascends R (remove_range xs i j ++ remove_range ys m n)
ascends_lessened R xs ys i j m n p q h =
    let first = ap (λ zs. zs ++ ys) (split_between xs i j p) ∙ append_assoc (take i xs) (between i j xs ++ drop j xs) ys ∙ ap (λ zs. take i xs ++ zs) (append_assoc (between i j xs) (drop j xs) ys) in
    let one : Ascends R (remove_range xs i j ++ ys) = subst (Ascends R) (sym (append_assoc (take i xs) (drop j xs) ys)) (ascends_parts R (take i xs) (between i j xs) (drop j xs ++ ys) (subst (Ascends R) first h)) in
    let second = ap (λ zs. remove_range xs i j ++ zs) (split_between ys m n q) ∙ sym (append_assoc (remove_range xs i j) (take m ys) (between m n ys ++ drop n ys)) in
    subst (Ascends R) (append_assoc (remove_range xs i j) (take m ys) (drop n ys)) (ascends_parts R (remove_range xs i j ++ take m ys) (between m n ys) (drop n ys) (subst (Ascends R) second one))

pub each_lessened : {A : Type 0} (P : A → Type 0) (xs ys : List A) (i j m n : ℕ) → Each P (xs ++ ys) → Each P (remove_range xs i j ++ remove_range ys m n)
each_lessened P xs ys i j m n h = each_append P (remove_range xs i j) (remove_range ys m n) (each_less P xs i j (each_front P xs ys h)) (each_less P ys m n (each_back P xs ys h))

pub kid_sixteen : {K V : Type 0} (h : ℕ) (k : Branch K V) → IsKid 16 h k → 16 ≤ length k.pairs
kid_sixteen h k s = omega (arith, kid_long h k s, one_power h)

pub on_ok_on : {A E : Type 0} {P S : Type 0} (r : Result A E) → (P → S) → OnOk r P → OnOk r S
on_ok_on (Ok x) f p = f p
on_ok_on (Err e) f p = p

-- ---- one leaf of an inner node without the pairs between two places

module _ {K V : Type 0} (R : K → K → Ordering) (ss : List K) (ks : List (Branch K V)) (inner : IsInner R ss ks) (i j : ℕ) where
  -- with the leaf after it
  pub enough_before : (l : ℕ) (d e : Branch K V) → suc l < length ks → 16 ≤ length ((lessened (get_or ks l d) i j).pairs ++ (lessened (get_or ks (suc l) e) 0 0).pairs)
  enough_before l d e p = omega (arith, length-append (lessened (get_or ks l d) i j).pairs (get_or ks (suc l) e).pairs, kid_sixteen inner.level (get_or ks (suc l) e) (each_at (IsKid 16 inner.level) ks (suc l) e p inner.kids))

  -- with the leaf before it
  pub enough_after : (l : ℕ) (d e : Branch K V) → suc l < length ks → 16 ≤ length ((lessened (get_or ks l d) 0 0).pairs ++ (lessened (get_or ks (suc l) e) i j).pairs)
  enough_after l d e p = omega (arith, length-append (get_or ks l d).pairs (lessened (get_or ks (suc l) e) i j).pairs, kid_sixteen inner.level (get_or ks l d) (each_at (IsKid 16 inner.level) ks l d (omega (arith, p)) inner.kids))

module _ {K V : Type 0} (ks : List (Branch K V)) (i j : ℕ) where
  pub one_before : (l : ℕ) (d : Branch K V) → suc l < length ks → flat (slice_set (slice_set ks l (lessened (get_or ks l d) i j)) (suc l) (lessened (get_or ks (suc l) d) 0 0)) ≡ flat (slice_set ks l (lessened (get_or ks l d) i j))
  one_before l d p = flat_upper_kept l ks (lessened (get_or ks l d) i j) (lessened (get_or ks (suc l) d) 0 0) d p refl

  pub one_after : (l : ℕ) (d : Branch K V) → suc l < length ks → flat (slice_set (slice_set ks l (lessened (get_or ks l d) 0 0)) (suc l) (lessened (get_or ks (suc l) d) i j)) ≡ flat (slice_set ks (suc l) (lessened (get_or ks (suc l) d) i j))
  one_after l d p = flat_lower_kept l ks (lessened (get_or ks l d) 0 0) (lessened (get_or ks (suc l) d) i j) d (omega (arith, p)) refl

pub set_height : {K V : Type 0} (i : ℕ) (ks : List (Branch K V)) (d k : Branch K V) → i < length ks → k.height ≡ (get_or ks i d).height → height_of (slice_set ks i k) ≡ height_of ks
set_height i [] d k p e = absurd (omega arith)
set_height zero (x ∷ ks) d k p e = ap suc e
set_height (suc i) (x ∷ ks) d k p e = refl
