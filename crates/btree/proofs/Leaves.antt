-- A key's place in a leaf's row, and what is found and changed there.
use Rattle.std.proofs.Common.{◌≡◌, inl, inr, ℕ, zero, suc, ◌+◌, ◌-◌, ◌<◌, ◌≤◌, Option, Some, None, Ok, Err, IfOk, IfSome, List, [], ◌∷◌, ◌++◌, length, take, drop, slice_set, get_or, refl, sym, ap, subst, ◌∙◌, arith, append-nil, length-append}
use Rattle.std.specs.Prelude.{Result}
use Rattle.std.specs.List.{insert, remove}
use Rattle.std.specs.Option.{option_or}
use Rattle.std.specs.Cmp.{IsTotalOrder}
use Rattle.std.specs.Ordering.{ordering_reverse}
use Rattle.std.specs.declared.cmp.Ordering.{Ordering}
use Rattle.std.specs.declared.cmp.Ordering.TheVariants.{Less, Equal}
use Rattle.std.specs.FinMap.Entries.{find, put}
use Rattle.btree.specs.Order.{Each, Ascends, IsBefore, IsAfter, last_of, without}
use Rattle.btree.specs.Parts.{IsFrom, Parts, IsWithin}
use Rattle.btree.specs.Gap.{IsPutIn, IsAbove, IsBelow}
use Rattle.btree.specs.Rows.{branch_of, HasBecome}
use Rattle.btree.proofs.Shapes.{leaf_kid}
use Rattle.btree.proofs.Order.{each_map, each_at, ascends_front, ascends_back, before_down, after_up, find_between, find_tied, put_between, put_tied, without_between, taken_out, last_taken}
use Rattle.btree.proofs.Parting.{from_under}

pub last_kept : {A : Type 0} (a : Option A) (x y : A) → option_or (option_or a (Some x)) (Some y) ≡ option_or a (Some x)
last_kept None x y = refl
last_kept (Some z) x y = refl

pub if_some_on : {A : Type 0} {P Q : A → Type 0} (a : Option A) → ((x : A) → P x → Q x) → IfSome a P → IfSome a Q
if_some_on None f p = tt
if_some_on (Some x) f p = f x p

pub if_ok_on : {A E : Type 0} {P Q : A → Type 0} (r : Result A E) → ((x : A) → P x → Q x) → IfOk r P → IfOk r Q
if_ok_on (Ok x) f p = f x p
if_ok_on (Err e) f p = p

pub get_front : {A : Type 0} (i : ℕ) (xs ys : List A) (d : A) → i < length xs → get_or (xs ++ ys) i d ≡ get_or xs i d
get_front i [] ys d p = absurd (omega arith)
get_front zero (x ∷ xs) ys d p = refl
get_front (suc i) (x ∷ xs) ys d p = get_front i xs ys d (omega arith)

pub get_back : {A : Type 0} (i : ℕ) (xs ys : List A) (d : A) → length xs ≤ i → get_or (xs ++ ys) i d ≡ get_or ys (i - length xs) d
get_back i [] ys d p = let z : i ≡ i - 0 = omega arith in ap (λ n. get_or ys n d) z
get_back zero (x ∷ xs) ys d p = absurd (omega arith)
get_back (suc i) (x ∷ xs) ys d p =
    let z : i - length xs ≡ suc i - suc (length xs) = omega arith in
    get_back i xs ys d (omega arith) ∙ ap (λ n. get_or ys n d) z

-- ---- rows cut at a place

take_front : {A : Type 0} (xs ys : List A) → take (length xs) (xs ++ ys) ≡ xs
take_front [] ys = refl
take_front (x ∷ xs) ys = ap (λ zs. x ∷ zs) (take_front xs ys)

drop_front : {A : Type 0} (xs ys : List A) → drop (length xs) (xs ++ ys) ≡ ys
drop_front [] ys = refl
drop_front (x ∷ xs) ys = drop_front xs ys

pub split_at : {A : Type 0} (i : ℕ) (xs : List A) → i ≤ length xs → xs ≡ take i xs ++ drop i xs
split_at zero xs p = refl
split_at (suc i) [] p = absurd (omega arith)
split_at (suc i) (x ∷ xs) p = ap (λ ys. x ∷ ys) (split_at i xs (omega arith))

pub split_in : {A : Type 0} (i : ℕ) (xs : List A) (d : A) → i < length xs → xs ≡ take i xs ++ get_or xs i d ∷ drop (suc i) xs
split_in i [] d p = absurd (omega arith)
split_in zero (x ∷ xs) d p = refl
split_in (suc i) (x ∷ xs) d p = ap (λ ys. x ∷ ys) (split_in i xs d (omega arith))

pub insert_split : {A : Type 0} (i : ℕ) (xs : List A) (y : A) → i ≤ length xs → insert xs i y ≡ take i xs ++ y ∷ drop i xs
insert_split zero xs y p = refl
insert_split (suc i) [] y p = absurd (omega arith)
insert_split (suc i) (x ∷ xs) y p = ap (λ ys. x ∷ ys) (insert_split i xs y (omega arith))

set_split : {A : Type 0} (i : ℕ) (xs : List A) (y : A) → i < length xs → slice_set xs i y ≡ take i xs ++ y ∷ drop (suc i) xs
set_split i [] y p = absurd (omega arith)
set_split zero (x ∷ xs) y p = refl
set_split (suc i) (x ∷ xs) y p = ap (λ ys. x ∷ ys) (set_split i xs y (omega arith))

remove_split : {A : Type 0} (i : ℕ) (xs : List A) → i < length xs → remove xs i ≡ take i xs ++ drop (suc i) xs
remove_split i [] p = absurd (omega arith)
remove_split zero (x ∷ xs) p = refl
remove_split (suc i) (x ∷ xs) p = ap (λ ys. x ∷ ys) (remove_split i xs (omega arith))

pub insert_removed : {A : Type 0} (i : ℕ) (xs : List A) (y : A) → i < length xs → y ≡ get_or xs i y → insert (remove xs i) i y ≡ xs
insert_removed i [] y p e = absurd (omega arith)
insert_removed zero (x ∷ xs) y p e = ap (λ z. z ∷ xs) e
insert_removed (suc i) (x ∷ xs) y p e = ap (λ ys. x ∷ ys) (insert_removed i xs y (omega arith) e)

pub each_at_end : {A : Type 0} (P : A → Type 0) (i : ℕ) (xs : List A) → Each P xs → Each P (take i xs) × Each P (drop i xs)
each_at_end P zero xs h = (tt, h)
each_at_end P (suc i) [] h = (tt, tt)
each_at_end P (suc i) (x ∷ xs) h = let t = each_at_end P i xs h.1 in ((h.0, t.0), t.1)

module _ {K V : Type 0} (R : K → K → Ordering) (o : IsTotalOrder R) where
  -- ---- a key that is there

  pub find_at : (key : K) (i : ℕ) (es : List (K × V)) (d : K × V) → Ascends R es → i < length es → R key (get_or es i d).0 ≡ Equal → find R key es ≡ Some (get_or es i d).1
  find_at key i es d s p t =
      let e = split_in i es d p in
      ap (find R key) e ∙ find_tied R o key (take i es) (get_or es i d) (drop (suc i) es) (subst (Ascends R) e s) t

  pub put_set : (key : K) (v : V) (i : ℕ) (es : List (K × V)) (d : K × V) → Ascends R es → i < length es → R key (get_or es i d).0 ≡ Equal → slice_set es i ((get_or es i d).0, v) ≡ put R key v es
  put_set key v i es d s p t =
      let e = split_in i es d p in
      set_split i es ((get_or es i d).0, v) p ∙ sym (ap (put R key v) e ∙ put_tied R o key v (take i es) (get_or es i d) (drop (suc i) es) (subst (Ascends R) e s) t)

  pub without_at : (key : K) (i : ℕ) (es : List (K × V)) (d : K × V) → Ascends R es → i < length es → R key (get_or es i d).0 ≡ Equal → remove es i ≡ without R key es
  without_at key i es d s p t =
      (taken_out R o key es (remove es i) (get_or es i d) s t (record { front = take i es; back = drop (suc i) es; was = split_in i es d p; is = remove_split i es p })).1

  -- ---- a key that is not there

  module _ (key : K) (i : ℕ) (es : List (K × V)) (p : i ≤ length es) (below : Each (IsBefore R key) (take i es)) (above : Each (IsAfter R key) (drop i es)) where
    pub find_gap : find R key es ≡ None
    find_gap = ap (find R key) (split_at i es p) ∙ find_between R o key (take i es) [] (drop i es) below above

    pub put_gap : (v : V) → insert es i (key, v) ≡ put R key v es
    put_gap v = insert_split i es (key, v) p ∙ sym (ap (put R key v) (split_at i es p) ∙ put_between R o key v (take i es) [] (drop i es) below above)

    pub without_gap : es ≡ without R key es
    without_gap = split_at i es p ∙ sym (ap (without R key) (split_at i es p) ∙ without_between R o key (take i es) [] (drop i es) below above)

  -- ---- a place told by the pairs next to it

  below_last : (key : K) (xs : List (K × V)) → Ascends R xs → IfSome (last_of xs) (IsBefore R key) → Each (IsBefore R key) xs
  below_last key [] s h = tt
  below_last key (x ∷ []) s h = (h, tt)
  below_last key (x ∷ y ∷ xs) s h =
      let t = below_last key (y ∷ xs) s.1 (subst (λ l. IfSome l (IsBefore R key)) (last_kept (last_of xs) y x) h) in
      (before_down R o key x y s.0.0 t.0, t)

  all_above : (key : K) (low : Option K) (xs : List (K × V)) → Ascends R xs → IsAbove R key low xs → Each (IsBefore R key) xs
  all_above key low [] s h = tt
  all_above key low (x ∷ xs) s h = below_last key (x ∷ xs) s h

  all_below : (key : K) (high : Option K) (xs : List (K × V)) → Ascends R xs → IsBelow R key high xs → Each (IsAfter R key) xs
  all_below key high [] s h = tt
  all_below key high (x ∷ xs) s h = (h, each_map (λ y k. after_up R o key x y k h) xs s.0)

  -- what does not stand before a separator and is passed by the key: neither does the key
  from_above : (key : K) (low : Option K) (xs : List (K × V)) → Each (λ (e : K × V). IfSome low (λ s. IsFrom R s e.0)) xs → Each (IsBefore R key) xs → IsAbove R key low xs → IfSome low (λ s. IsFrom R s key)
  from_above key None xs w b h = tt
  from_above key (Some s) [] w b h = h
  from_above key (Some s) (x ∷ xs) w b h =
      inr (o.antisymm key s ∙ ap ordering_reverse (from_under R o s x.0 key w.0 (o.antisymm x.0 key ∙ ap ordering_reverse b.0)))

  under_below : (key : K) (high : Option K) (xs : List (K × V)) → Each (λ (e : K × V). IfSome high (λ s. R e.0 s ≡ Less)) xs → IsBelow R key high xs → IfSome high (λ s. R key s ≡ Less)
  under_below key None xs w h = tt
  under_below key (Some s) [] w h = h
  under_below key (Some s) (x ∷ xs) w h = o.trans key x.0 s h w.0

  module _ (key : K) (low high : Option K) (i : ℕ) (es : List (K × V)) (p : i ≤ length es) (sorted : Ascends R es) (inside : Each (λ (e : K × V). IsWithin R low high e.0) es) (above : IsAbove R key low (take i es)) (below : IsBelow R key high (drop i es)) where
    front : Each (IsBefore R key) (take i es)
    front = all_above key low (take i es) (ascends_front R (take i es) (drop i es) (subst (Ascends R) (split_at i es p) sorted)) above

    back : Each (IsAfter R key) (drop i es)
    back = all_below key high (drop i es) (ascends_back R (take i es) (drop i es) (subst (Ascends R) (split_at i es p) sorted)) below

    pub missed_at : find R key es ≡ None
    missed_at = find_gap key i es p front back

    pub put_at : (v : V) (fs : List (K × V)) → fs ≡ insert es i (key, v) → IsPutIn R key v es fs
    put_at v fs e = (missed_at, e ∙ put_gap key i es p front back v)

    pub within_at : IsWithin R low high key
    within_at =
        let w = each_at_end (λ (e : K × V). IsWithin R low high e.0) i es inside in
        (from_above key low (take i es) (each_map (λ e u. u.0) (take i es) w.0) front above, under_below key high (drop i es) (each_map (λ e u. u.1) (drop i es) w.1) below)

  -- a row cut at a place is parted by a key that ties with the first behind it
  pub parts_cut : (i : ℕ) (es : List (K × V)) (d : K × V) (s : K) → i < length es → Ascends R es → R s (get_or es i d).0 ≡ Equal → Parts R s (take i es) (drop i es)
  parts_cut i [] d s p h e = absurd (omega arith)
  parts_cut zero (x ∷ es) d s p h e =
      (tt, (inl (o.antisymm x.0 s ∙ ap ordering_reverse e), each_map (λ y k. inr (o.antisymm y.0 s ∙ ap ordering_reverse (o.congr s x.0 y.0 e ∙ k))) es h.0))
  parts_cut (suc i) (x ∷ es) d s p h e =
      let t = parts_cut i es d s (omega arith) h.1 e in
      let below = each_at (λ (f : K × V). R x.0 f.0 ≡ Less) es i d (omega arith) h.0 in
      ((o.antisymm x.0 s ∙ ap ordering_reverse (o.congr s (get_or es i d).0 x.0 e ∙ o.antisymm (get_or es i d).0 x.0 ∙ ap ordering_reverse below), t.0), t.1)

  -- ---- a row cut in two

  pub leaf_two : (ps lower upper : List (K × V)) (n : ℕ) (s : K) → lower ++ upper ≡ ps → length lower ≡ n → Parts R s (take n ps) (drop n ps) → 16 ≤ n → n ≤ 32 → n + 16 ≤ length ps → length ps ≤ n + 32 → HasBecome R 16 0 ps (branch_of lower [] []) (Some (s, branch_of upper [] []))
  leaf_two ps lower upper n s e m parts a b c d =
      let size = length-append lower upper in
      let total = ap length e in
      let front : take n ps ≡ lower ++ [] = ap (take n) (sym e) ∙ ap (λ k. take k (lower ++ upper)) (sym m) ∙ take_front lower upper ∙ sym (append-nil lower) in
      let back : drop n ps ≡ upper ++ [] = ap (drop n) (sym e) ∙ ap (λ k. drop k (lower ++ upper)) (sym m) ∙ drop_front lower upper ∙ sym (append-nil upper) in (
        leaf_kid 16 lower (omega arith) (omega arith),
        leaf_kid 16 upper (omega arith) (omega arith),
        ap (λ zs. zs ++ (upper ++ [])) (append-nil lower) ∙ ap (λ zs. lower ++ zs) (append-nil upper) ∙ e,
        subst (λ xs. Parts R s xs (upper ++ [])) front (subst (Parts R s (take n ps)) back parts),
      )

  pub leaf_split : (ps lower upper : List (K × V)) (d : K × V) (s : K) → lower ++ upper ≡ ps → length ps ≡ 33 → length lower ≤ 17 → length upper ≡ length ps - 17 → Ascends R ps → R s (get_or ps 17 d).0 ≡ Equal → HasBecome R 16 0 ps (branch_of lower [] []) (Some (s, branch_of upper [] []))
  leaf_split ps lower upper d s e n p q h f =
      let size = length-append lower upper in
      let total = ap length e in
      leaf_two ps lower upper 17 s e (omega (arith, size, total, n, p, q)) (parts_cut 17 ps d s (omega (arith, n)) h f) (omega arith) (omega arith) (omega (arith, n)) (omega (arith, n))

  -- a place behind a pair that the key is above
  pub above_taken : (key : K) (low : Option K) (i : ℕ) (es : List (K × V)) (d : K × V) → 0 < i → i ≤ length es → IsBefore R key (get_or es (i - 1) d) → IsAbove R key low (take i es)
  above_taken key low zero es d p q h = absurd (omega arith)
  above_taken key low (suc i) [] d p q h = absurd (omega arith)
  above_taken key low (suc i) (x ∷ es) d p q h =
      let less : suc i - 1 ≡ i = omega arith in
      subst (λ o. IfSome o (IsBefore R key)) (sym (last_taken (x ∷ es) i d (omega arith))) (subst (λ n. IsBefore R key (get_or (x ∷ es) n d)) less h)
