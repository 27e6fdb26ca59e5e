-- Facts on pairs in the order of their keys.
use Rattle.std.specs.Option.{option_or}
use Rattle.std.proofs.Common.{◌≡◌, ℕ, zero, suc, ◌<◌, Bool, true, false, not, cond, Option, List, [], ◌∷◌, ◌++◌, length, take, drop, slice_set, get_or, refl, sym, ap, subst, ◌∙◌, arith}
use Rattle.std.specs.List.{insert}
use Rattle.std.proofs.lemmas.List.Elements.{filter-append}
use Rattle.std.specs.Ordering.{is_eq, ordering_reverse, eq_by_cmp}
use Rattle.std.specs.Cmp.{IsTotalOrder}
use Rattle.std.specs.declared.cmp.Ordering.{Ordering}
use Rattle.std.specs.declared.cmp.Ordering.TheVariants.{Less, Equal, Greater}
use Rattle.std.specs.FinMap.Entries.{find, put, by_order}
use Rattle.btree.specs.Order.{Each, Ascends, IsBefore, IsAfter, first_from, last_before, last_of, without, IsTakenOut}

pub each_map : {A : Type 0} {P Q : A → Type 0} → ((x : A) → P x → Q x) → (xs : List A) → Each P xs → Each Q xs
each_map f [] h = tt
each_map f (x ∷ xs) h = (f x h.0, each_map f xs h.1)

pub each_append : {A : Type 0} (P : A → Type 0) (xs ys : List A) → Each P xs → Each P ys → Each P (xs ++ ys)
each_append P [] ys h k = k
each_append P (x ∷ xs) ys h k = (h.0, each_append P xs ys h.1 k)

pub each_front : {A : Type 0} (P : A → Type 0) (xs ys : List A) → Each P (xs ++ ys) → Each P xs
each_front P [] ys h = tt
each_front P (x ∷ xs) ys h = (h.0, each_front P xs ys h.1)

pub each_back : {A : Type 0} (P : A → Type 0) (xs ys : List A) → Each P (xs ++ ys) → Each P ys
each_back P [] ys h = h
each_back P (x ∷ xs) ys h = each_back P xs ys h.1

pub each_at : {A : Type 0} (P : A → Type 0) (xs : List A) (i : ℕ) (d : A) → i < length xs → Each P xs → P (get_or xs i d)
each_at P [] i d p h = absurd (omega arith)
each_at P (x ∷ xs) zero d p h = h.0
each_at P (x ∷ xs) (suc i) d p h = each_at P xs i d (omega arith) h.1

pub each_set : {A : Type 0} (P : A → Type 0) (xs : List A) (i : ℕ) (y : A) → Each P xs → P y → Each P (slice_set xs i y)
each_set P [] i y h p = h
each_set P (x ∷ xs) zero y h p = (p, h.1)
each_set P (x ∷ xs) (suc i) y h p = (h.0, each_set P xs i y h.1 p)

pub each_insert : {A : Type 0} (P : A → Type 0) (i : ℕ) (xs : List A) (x : A) → Each P xs → P x → Each P (insert xs i x)
each_insert P zero xs x s p = (p, s)
each_insert P (suc i) [] x s p = (p, tt)
each_insert P (suc i) (y ∷ xs) x s p = (s.0, each_insert P i xs x s.1 p)

module _ {K V : Type 0} (R : K → K → Ordering) where
  -- what holds at a place and passes down the order holds before it
  pub taken_down : (P : K × V → Type 0) → ((x y : K × V) → R x.0 y.0 ≡ Less → P y → P x) → (es : List (K × V)) (i : ℕ) (d : K × V) → Ascends R es → i < length es → P (get_or es i d) → Each P (take (suc i) es)
  taken_down P down [] i d s p h = absurd (omega arith)
  taken_down P down (e ∷ es) zero d s p h = (h, tt)
  taken_down P down (e ∷ es) (suc i) d s p h =
      let q : i < length es = omega arith in
      (down e (get_or es i d) (each_at (λ (f : K × V). R e.0 f.0 ≡ Less) es i d q s.0) h, taken_down P down es i d s.1 q h)

  -- what holds at a place and passes up the order holds from it on
  pub dropped_up : (P : K × V → Type 0) → ((x y : K × V) → R x.0 y.0 ≡ Less → P x → P y) → (es : List (K × V)) (i : ℕ) (d : K × V) → Ascends R es → i < length es → P (get_or es i d) → Each P (drop i es)
  dropped_up P up [] i d s p h = absurd (omega arith)
  dropped_up P up (e ∷ es) zero d s p h = (h, each_map (λ f k. up e f k h) es s.0)
  dropped_up P up (e ∷ es) (suc i) d s p h = dropped_up P up es i d s.1 (omega arith) h

  pub ascends_front : (xs ys : List (K × V)) → Ascends R (xs ++ ys) → Ascends R xs
  ascends_front [] ys h = tt
  ascends_front (x ∷ xs) ys h = (each_front (λ (f : K × V). R x.0 f.0 ≡ Less) xs ys h.0, ascends_front xs ys h.1)

  pub ascends_back : (xs ys : List (K × V)) → Ascends R (xs ++ ys) → Ascends R ys
  ascends_back [] ys h = h
  ascends_back (x ∷ xs) ys h = ascends_back xs ys h.1

  -- all before a pair are below it
  pub below_later : (xs : List (K × V)) (y : K × V) (ys : List (K × V)) → Ascends R (xs ++ y ∷ ys) → Each (λ (x : K × V). R x.0 y.0 ≡ Less) xs
  below_later [] y ys h = tt
  below_later (x ∷ xs) y ys h = ((each_back (λ (f : K × V). R x.0 f.0 ≡ Less) xs (y ∷ ys) h.0).0, below_later xs y ys h.1)

-- ---- a key's place

module _ {K V : Type 0} (R : K → K → Ordering) (o : IsTotalOrder R) where
  -- x < y < key
  pub before_down : (key : K) (x y : K × V) → R x.0 y.0 ≡ Less → IsBefore R key y → IsBefore R key x
  before_down key x y h k =
      let a : R y.0 key ≡ Less = o.antisymm y.0 key ∙ ap ordering_reverse k in
      o.antisymm key x.0 ∙ ap ordering_reverse (o.trans x.0 y.0 key h a)

  -- key < x < y
  pub after_up : (key : K) (x y : K × V) → R x.0 y.0 ≡ Less → IsAfter R key x → IsAfter R key y
  after_up key x y h k = o.trans key x.0 y.0 k h

  -- x < y, and y ties with the key
  pub before_tied : (key : K) (x y : K × V) → R x.0 y.0 ≡ Less → R key y.0 ≡ Equal → IsBefore R key x
  before_tied key x y h k = o.congr key y.0 x.0 k ∙ o.antisymm y.0 x.0 ∙ ap ordering_reverse h

-- ---- a point

-- what comes after a key that does not stand before a point does not either
pub not_before_up : {K : Type 0} (R : K → K → Ordering) (p : K → Bool) → ((x y : K) → R x y ≡ Less → p y ≡ true → p x ≡ true) → (x y : K) → R x y ≡ Less → p x ≡ false → p y ≡ false
not_before_up R p down x y h k =
    elim (p y) as (λ b. p y ≡ b → b ≡ false) [
      | true ↦ λ e. let f = down x y h e in cc
      | false ↦ λ e. refl
    ] refl

module _ {K V : Type 0} (R : K → K → Ordering) (o : IsTotalOrder R) where
  -- pairs before and after a key do not matter to a search, nor to a change at that key
  pub find_behind : (key : K) (bs es : List (K × V)) → Each (IsBefore R key) bs → find R key (bs ++ es) ≡ find R key es
  find_behind key [] es h = refl
  find_behind key (b ∷ bs) es h = let e : eq_by_cmp R key b.0 ≡ false = ap is_eq h.0 in rw e (find_behind key bs es h.1)

  find_none : (key : K) (es : List (K × V)) → Each (IsAfter R key) es → find R key es ≡ Option.None
  find_none key [] h = refl
  find_none key (b ∷ bs) h = let e : eq_by_cmp R key b.0 ≡ false = ap is_eq h.0 in rw e (find_none key bs h.1)

  pub find_ahead : (key : K) (es bs : List (K × V)) → Each (IsAfter R key) bs → find R key (es ++ bs) ≡ find R key es
  find_ahead key [] bs h = find_none key bs h
  find_ahead key (e ∷ es) bs h = ap (cond (eq_by_cmp R key e.0) (Option.Some e.1)) (find_ahead key es bs h)

  pub find_between : (key : K) (us es bs : List (K × V)) → Each (IsBefore R key) us → Each (IsAfter R key) bs → find R key (us ++ (es ++ bs)) ≡ find R key es
  find_between key us es bs h k = find_behind key us (es ++ bs) h ∙ find_ahead key es bs k

  pub find_tied : (key : K) (us : List (K × V)) (e : K × V) (bs : List (K × V)) → Ascends R (us ++ e ∷ bs) → R key e.0 ≡ Equal → find R key (us ++ e ∷ bs) ≡ Option.Some e.1
  find_tied key us e bs s t =
      let h = each_map {Q = IsBefore R key} (λ x k. before_tied R o key x e k t) us (below_later R us e bs s) in
      let q : eq_by_cmp R key e.0 ≡ true = ap is_eq t in
      find_behind key us (e ∷ bs) h ∙ rw q

  pub put_behind : (key : K) (v : V) (bs es : List (K × V)) → Each (IsBefore R key) bs → put R key v (bs ++ es) ≡ bs ++ put R key v es
  put_behind key v [] es h = refl
  put_behind key v (b ∷ bs) es h = rw h.0 (ap (λ xs. b ∷ xs) (put_behind key v bs es h.1))

  put_front : (key : K) (v : V) (es : List (K × V)) → Each (IsAfter R key) es → put R key v es ≡ (key, v) ∷ es
  put_front key v [] h = refl
  put_front key v (e ∷ es) h = rw h.0

  pub put_ahead : (key : K) (v : V) (es bs : List (K × V)) → Each (IsAfter R key) bs → put R key v (es ++ bs) ≡ put R key v es ++ bs
  put_ahead key v [] bs h = put_front key v bs h
  put_ahead key v (e ∷ es) bs h =
      elim (R key e.0) as (λ r. by_order r ((key, v) ∷ e ∷ (es ++ bs)) ((e.0, v) ∷ (es ++ bs)) (e ∷ put R key v (es ++ bs)) ≡ by_order r ((key, v) ∷ e ∷ es) ((e.0, v) ∷ es) (e ∷ put R key v es) ++ bs) [
        | Less ↦ refl
        | Equal ↦ refl
        | Greater ↦ ap (λ xs. e ∷ xs) (put_ahead key v es bs h)
      ]

  pub put_between : (key : K) (v : V) (us es bs : List (K × V)) → Each (IsBefore R key) us → Each (IsAfter R key) bs → put R key v (us ++ (es ++ bs)) ≡ us ++ (put R key v es ++ bs)
  put_between key v us es bs h k = put_behind key v us (es ++ bs) h ∙ ap (λ xs. us ++ xs) (put_ahead key v es bs k)

  pub put_tied : (key : K) (v : V) (us : List (K × V)) (e : K × V) (bs : List (K × V)) → Ascends R (us ++ e ∷ bs) → R key e.0 ≡ Equal → put R key v (us ++ e ∷ bs) ≡ us ++ (e.0, v) ∷ bs
  put_tied key v us e bs s t =
      let h = each_map {Q = IsBefore R key} (λ x k. before_tied R o key x e k t) us (below_later R us e bs s) in
      put_behind key v us (e ∷ bs) h ∙ ap (λ r. us ++ by_order r ((key, v) ∷ e ∷ bs) ((e.0, v) ∷ bs) (e ∷ put R key v bs)) t

  pub each_put : (Q : K → Type 0) (key : K) (v : V) (es : List (K × V)) → Each (λ (e : K × V). Q e.0) es → Q key → Each (λ (e : K × V). Q e.0) (put R key v es)
  each_put Q key v [] h q = (q, tt)
  each_put Q key v (e ∷ es) h q =
      elim (R key e.0) as (λ r. Each (λ (e : K × V). Q e.0) (by_order r ((key, v) ∷ e ∷ es) ((e.0, v) ∷ es) (e ∷ put R key v es))) [
        | Less ↦ (q, h)
        | Equal ↦ h
        | Greater ↦ (h.0, each_put Q key v es h.1 q)
      ]

  pub ascends_put : (key : K) (v : V) (es : List (K × V)) → Ascends R es → Ascends R (put R key v es)
  ascends_put key v [] h = (tt, tt)
  ascends_put key v (e ∷ es) h =
      elim (R key e.0) as (λ r. R key e.0 ≡ r → Ascends R (by_order r ((key, v) ∷ e ∷ es) ((e.0, v) ∷ es) (e ∷ put R key v es))) [
        | Less ↦ λ q. ((q, each_map (λ f k. o.trans key e.0 f.0 q k) es h.0), h)
        | Equal ↦ λ q. h
        | Greater ↦ λ q. (each_put (λ x. R e.0 x ≡ Less) key v es h.0 (o.antisymm e.0 key ∙ ap ordering_reverse q), ascends_put key v es h.1)
      ] refl

-- ---- what is found from a point

pub or_else_none : {A : Type 0} (a : Option A) → a ≡ option_or a Option.None
or_else_none Option.None = refl
or_else_none (Option.Some x) = refl

pub or_else_assoc : {A : Type 0} (a b c : Option A) → option_or (option_or a b) c ≡ option_or a (option_or b c)
or_else_assoc Option.None b c = refl
or_else_assoc (Option.Some x) b c = refl

module _ {K V : Type 0} (p : K → Bool) where
  pub first_append : (xs ys : List (K × V)) → first_from p (xs ++ ys) ≡ option_or (first_from p xs) (first_from p ys)
  first_append [] ys = refl
  first_append (x ∷ xs) ys =
      elim (p x.0) as (λ b. cond (not b) (Option.Some x) (first_from p (xs ++ ys)) ≡ option_or (cond (not b) (Option.Some x) (first_from p xs)) (first_from p ys)) [ true ↦ first_append xs ys | false ↦ refl ]

  first_skips : (xs ys : List (K × V)) → Each (λ (e : K × V). p e.0 ≡ true) xs → first_from p (xs ++ ys) ≡ first_from p ys
  first_skips [] ys h = refl
  first_skips (x ∷ xs) ys h = rw h.0 (first_skips xs ys h.1)

  pub first_between : (us es bs : List (K × V)) → Each (λ (e : K × V). p e.0 ≡ true) us → first_from p (us ++ (es ++ bs)) ≡ option_or (first_from p es) (first_from p bs)
  first_between us es bs h = first_skips us (es ++ bs) h ∙ first_append es bs

  pub last_append : (xs ys : List (K × V)) → last_before p (xs ++ ys) ≡ option_or (last_before p ys) (last_before p xs)
  last_append [] ys = or_else_none (last_before p ys)
  last_append (x ∷ xs) ys = ap (λ o. option_or o (cond (p x.0) (Option.Some x) Option.None)) (last_append xs ys) ∙ or_else_assoc (last_before p ys) (last_before p xs) (cond (p x.0) (Option.Some x) Option.None)

  pub last_none : (xs : List (K × V)) → Each (λ (e : K × V). p e.0 ≡ false) xs → last_before p xs ≡ Option.None
  last_none [] h = refl
  last_none (x ∷ xs) h = rw (last_none xs h.1, h.0)

  pub last_between : (us es bs : List (K × V)) → Each (λ (e : K × V). p e.0 ≡ false) bs → last_before p (us ++ (es ++ bs)) ≡ option_or (last_before p es) (last_before p us)
  last_between us es bs h =
      last_append us (es ++ bs) ∙ ap (λ o. option_or o (last_before p us)) (last_append es bs ∙ ap (λ o. option_or o (last_before p es)) (last_none bs h))

pub last_taken : {A : Type 0} (xs : List A) (i : ℕ) (d : A) → i < length xs → last_of (take (suc i) xs) ≡ Option.Some (get_or xs i d)
last_taken [] i d p = absurd (omega arith)
last_taken (x ∷ xs) zero d p = refl
last_taken (x ∷ xs) (suc i) d p = rw (last_taken xs i d (omega arith))

-- ---- without a key

module _ {K V : Type 0} (R : K → K → Ordering) (o : IsTotalOrder R) where
  without_before : (key : K) (es : List (K × V)) → Each (IsBefore R key) es → without R key es ≡ es
  without_before key [] h = refl
  without_before key (e ∷ es) h = let q : eq_by_cmp R key e.0 ≡ false = ap is_eq h.0 in rw q (ap (λ xs. e ∷ xs) (without_before key es h.1))

  without_after : (key : K) (es : List (K × V)) → Each (IsAfter R key) es → without R key es ≡ es
  without_after key [] h = refl
  without_after key (e ∷ es) h = let q : eq_by_cmp R key e.0 ≡ false = ap is_eq h.0 in rw q (ap (λ xs. e ∷ xs) (without_after key es h.1))

  without_append : (key : K) (us es : List (K × V)) → without R key (us ++ es) ≡ without R key us ++ without R key es
  without_append key us es = filter-append (λ (e : K × V). not (eq_by_cmp R key e.0)) us es

  pub without_between : (key : K) (us es bs : List (K × V)) → Each (IsBefore R key) us → Each (IsAfter R key) bs → without R key (us ++ (es ++ bs)) ≡ us ++ (without R key es ++ bs)
  without_between key us es bs h k =
      without_append key us (es ++ bs) ∙ ap (λ xs. xs ++ without R key (es ++ bs)) (without_before key us h)
      ∙ ap (λ xs. us ++ xs) (without_append key es bs ∙ ap (λ xs. without R key es ++ xs) (without_after key bs k))

  without_tied : (key : K) (us : List (K × V)) (e : K × V) (bs : List (K × V)) → Ascends R (us ++ e ∷ bs) → R key e.0 ≡ Equal → without R key (us ++ e ∷ bs) ≡ us ++ bs
  without_tied key us e bs s t =
      let h = each_map {Q = IsBefore R key} (λ x k. before_tied R o key x e k t) us (below_later R us e bs s) in
      let k = each_map {Q = IsAfter R key} (λ x j. o.congr key e.0 x.0 t ∙ j) bs (ascends_back R us (e ∷ bs) s).0 in
      let q : eq_by_cmp R key e.0 ≡ true = ap is_eq t in
      without_append key us (e ∷ bs) ∙ ap (λ xs. xs ++ without R key (e ∷ bs)) (without_before key us h)
      ∙ ap (λ xs. us ++ xs) (rw q (without_after key bs k))

  pub taken_out : (key : K) (old new : List (K × V)) (e : K × V) → Ascends R old → R key e.0 ≡ Equal → IsTakenOut old e new → (find R key old ≡ Option.Some e.1) × (new ≡ without R key old)
  taken_out key old new e s t out =
      let sorted = subst (Ascends R) out.was s in
      (ap (find R key) out.was ∙ find_tied R o key out.front e out.back sorted t, out.is ∙ sym (ap (without R key) out.was ∙ without_tied key out.front e out.back sorted t))
