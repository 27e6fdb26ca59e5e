-- What the shown pairs are after look-ups and changes of all.
use Rattle.std.proofs.Common.{◌≡◌, ℕ, suc, ◌+◌, ◌-◌, ◌≤◌, Bool, true, false, not, cond, Option, Some, None, List, [], ◌∷◌, ◌++◌, length, is_some, reverse, refl, sym, ap, ◌∙◌, arith, append-nil}
use Rattle.std.specs.Prelude.{◌&&◌}
use Rattle.std.specs.List.{filter, find}
use Rattle.std.proofs.lemmas.List.{reverse-append}
use Rattle.std.specs.Ordering.{is_eq, is_lt, eq_by_cmp}
use Rattle.std.specs.Cmp.{IsTotalOrder, first_so, second_so}
use Rattle.std.specs.declared.cmp.Ordering.{Ordering}
use Rattle.std.specs.declared.cmp.Ordering.TheVariants.{Less, Equal, Greater}
use Rattle.std.specs.Option.{option_or, option_map, MatchOption}
use Rattle.std.specs.FinMap.{IsAntisymmetric}
use Rattle.std.specs.FinMap.Entries as entries
use Rattle.std.specs.FinMap.Entries.{below_all, is_sorted, put, by_order}
use Rattle.btree.specs.Order.{without, find_last}
use Rattle.steady_map.specs.Shown.{shown, with_value, joined, pair_of}

pub less_of : (r : Ordering) → is_lt r ≡ true → r ≡ Less
less_of Less e = refl
less_of Equal e = absurd (cc)
less_of Greater e = absurd (cc)

-- ---- order

both : (a b : Bool) → a ≡ true → b ≡ true → (a && b) ≡ true
both a b p q = rw (p, q) refl

module _ {K V : Type 0} (R : K → K → Ordering) where
  below_value : (x : K) (k : K) (v : Option V) (es : List (K × V)) → is_lt (R x k) ≡ true → below_all R x es ≡ true → below_all R x (with_value k v es) ≡ true
  below_value x k None es p q = q
  below_value x k (Some v) es p q = both (is_lt (R x k)) (below_all R x es) p q

  below_shown : (x : K) (es : List (K × Option V)) → below_all R x es ≡ true → below_all R x (shown es) ≡ true
  below_shown x [] h = refl
  below_shown x (e ∷ es) h = below_value x e.0 e.1 (shown es) (first_so (is_lt (R x e.0)) (below_all R x es) h) (below_shown x es (second_so (is_lt (R x e.0)) (below_all R x es) h))

  sorted_value : (k : K) (v : Option V) (es : List (K × V)) → below_all R k es ≡ true → is_sorted R es ≡ true → is_sorted R (with_value k v es) ≡ true
  sorted_value k None es p q = q
  sorted_value k (Some v) es p q = both (below_all R k es) (is_sorted R es) p q

  pub sorted_shown : (es : List (K × Option V)) → is_sorted R es ≡ true → is_sorted R (shown es) ≡ true
  sorted_shown [] h = refl
  sorted_shown (e ∷ es) h =
      sorted_value e.0 e.1 (shown es) (below_shown e.0 es (first_so (below_all R e.0 es) (is_sorted R es) h)) (sorted_shown es (second_so (below_all R e.0 es) (is_sorted R es) h))

module _ {K X : Type 0} (R : K → K → Ordering) where
  below_front : (x : K) (es fs : List (K × X)) → below_all R x (es ++ fs) ≡ true → below_all R x es ≡ true
  below_front x [] fs h = refl
  below_front x (e ∷ es) fs h =
      both (is_lt (R x e.0)) (below_all R x es) (first_so (is_lt (R x e.0)) (below_all R x (es ++ fs)) h) (below_front x es fs (second_so (is_lt (R x e.0)) (below_all R x (es ++ fs)) h))

  pub sorted_front : (es fs : List (K × X)) → is_sorted R (es ++ fs) ≡ true → is_sorted R es ≡ true
  sorted_front [] fs h = refl
  sorted_front (e ∷ es) fs h =
      both (below_all R e.0 es) (is_sorted R es) (below_front e.0 es fs (first_so (below_all R e.0 (es ++ fs)) (is_sorted R (es ++ fs)) h)) (sorted_front es fs (second_so (below_all R e.0 (es ++ fs)) (is_sorted R (es ++ fs)) h))

  pub sorted_back : (es fs : List (K × X)) → is_sorted R (es ++ fs) ≡ true → is_sorted R fs ≡ true
  sorted_back [] fs h = h
  sorted_back (e ∷ es) fs h = sorted_back es fs (second_so (below_all R e.0 (es ++ fs)) (is_sorted R (es ++ fs)) h)

  below_kept : (x : K) (p : K × X → Bool) (es : List (K × X)) → below_all R x es ≡ true → below_all R x (filter p es) ≡ true
  below_kept x p [] h = refl
  below_kept x p (e ∷ es) h =
      let rest = below_kept x p es (second_so (is_lt (R x e.0)) (below_all R x es) h) in
      elim (p e) as (λ t. below_all R x (cond t (e ∷ filter p es) (filter p es)) ≡ true) [ true ↦ both (is_lt (R x e.0)) (below_all R x (filter p es)) (first_so (is_lt (R x e.0)) (below_all R x es) h) rest | false ↦ rest ]

  pub sorted_kept : (p : K × X → Bool) (es : List (K × X)) → is_sorted R es ≡ true → is_sorted R (filter p es) ≡ true
  sorted_kept p [] h = refl
  sorted_kept p (e ∷ es) h =
      let rest = sorted_kept p es (second_so (below_all R e.0 es) (is_sorted R es) h) in
      elim (p e) as (λ t. is_sorted R (cond t (e ∷ filter p es) (filter p es)) ≡ true) [ true ↦ both (below_all R e.0 (filter p es)) (is_sorted R (filter p es)) (below_kept e.0 p es (first_so (below_all R e.0 es) (is_sorted R es) h)) rest | false ↦ rest ]

-- ---- lists

module _ {K V : Type 0} where
  value_append : (k : K) (v : Option V) (es fs : List (K × V)) → with_value k v (es ++ fs) ≡ with_value k v es ++ fs
  value_append k None es fs = refl
  value_append k (Some v) es fs = refl

  pub shown_append : (es fs : List (K × Option V)) → shown (es ++ fs) ≡ shown es ++ shown fs
  shown_append [] fs = refl
  shown_append (e ∷ es) fs = ap (with_value e.0 e.1) (shown_append es fs) ∙ value_append e.0 e.1 (shown es) (shown fs)

  value_filter : (q : K → Bool) (k : K) (v : Option V) (es : List (K × V)) → filter (λ e. q e.0) (with_value k v es) ≡ cond (q k) (with_value k v (filter (λ e. q e.0) es)) (filter (λ e. q e.0) es)
  value_filter q k None es = elim (q k) as (λ t. filter (λ e. q e.0) es ≡ cond t (filter (λ e. q e.0) es) (filter (λ e. q e.0) es)) [ true ↦ refl | false ↦ refl ]
  value_filter q k (Some v) es = refl

  pub shown_filter : (q : K → Bool) (es : List (K × Option V)) → shown (filter (λ e. q e.0) es) ≡ filter (λ e. q e.0) (shown es)
  shown_filter q [] = refl
  shown_filter q (e ∷ es) =
      choose (q e.0) ∙ ap (λ fs. cond (q e.0) (with_value e.0 e.1 fs) fs) (shown_filter q es) ∙ sym (value_filter q e.0 e.1 (shown es))
    where
      choose : (t : Bool) → shown (cond t (e ∷ filter (λ e. q e.0) es) (filter (λ e. q e.0) es)) ≡ cond t (with_value e.0 e.1 (shown (filter (λ e. q e.0) es))) (shown (filter (λ e. q e.0) es))
      choose true = refl
      choose false = refl

  value_reversed : (k : K) (v : Option V) (es : List (K × V)) → reverse (with_value k v es) ≡ reverse es ++ with_value k v []
  value_reversed k None es = sym (append-nil (reverse es))
  value_reversed k (Some v) es = reverse-append ((k, v) ∷ []) es

  pub shown_reverse : (es : List (K × Option V)) → shown (reverse es) ≡ reverse (shown es)
  shown_reverse [] = refl
  shown_reverse (e ∷ es) =
      ap shown (reverse-append (e ∷ []) es) ∙ shown_append (reverse es) (e ∷ []) ∙ ap (λ fs. fs ++ with_value e.0 e.1 []) (shown_reverse es) ∙ sym (value_reversed e.0 e.1 (shown es))

  value_most : (k : K) (v : Option V) (es : List (K × V)) (n : ℕ) → length es ≤ n → length (with_value k v es) ≤ suc n
  value_most k None es n p = omega (arith, p)
  value_most k (Some v) es n p = omega (arith, p)

  pub shown_most : (es : List (K × Option V)) → length (shown es) ≤ length es
  shown_most [] = omega arith
  shown_most (e ∷ es) = value_most e.0 e.1 (shown es) (length es) (shown_most es)

-- ---- a key that is looked up

module _ {K X : Type 0} (R : K → K → Ordering) (o : IsTotalOrder R) where
  -- above a key that ties with q there is no q
  above_none : (q x : K) (es : List (K × X)) → R q x ≡ Equal → below_all R x es ≡ true → entries.find R q es ≡ None
  above_none q x [] t h = refl
  above_none q x (e ∷ es) t h =
      let less = less_of (R x e.0) (first_so (is_lt (R x e.0)) (below_all R x es) h) in
      let here : eq_by_cmp R q e.0 ≡ false = ap is_eq (o.congr q x e.0 t ∙ less) in
      rw here (above_none q x es t (second_so (is_lt (R x e.0)) (below_all R x es) h))

  above_kept : (q x : K) (es : List (K × X)) → R q x ≡ Equal → below_all R x es ≡ true → without R q es ≡ es
  above_kept q x [] t h = refl
  above_kept q x (e ∷ es) t h =
      let less = less_of (R x e.0) (first_so (is_lt (R x e.0)) (below_all R x es) h) in
      let here : eq_by_cmp R q e.0 ≡ false = ap is_eq (o.congr q x e.0 t ∙ less) in
      rw here (ap (λ fs. e ∷ fs) (above_kept q x es t (second_so (is_lt (R x e.0)) (below_all R x es) h)))

  put_first : (k : K) (v : X) (es : List (K × X)) → below_all R k es ≡ true → put R k v es ≡ (k, v) ∷ es
  put_first k v [] h = refl
  put_first k v (e ∷ es) h = rw (less_of (R k e.0) (first_so (is_lt (R k e.0)) (below_all R k es) h)) refl

  pub below_down : (x y : K) (es : List (K × X)) → R x y ≡ Less → below_all R y es ≡ true → below_all R x es ≡ true
  below_down x y [] l h = refl
  below_down x y (e ∷ es) l h =
      let less = less_of (R y e.0) (first_so (is_lt (R y e.0)) (below_all R y es) h) in
      rw (o.trans x y e.0 l less, below_down x y es l (second_so (is_lt (R y e.0)) (below_all R y es) h)) refl

  pub below_tied : (x y : K) (es : List (K × X)) → R x y ≡ Equal → below_all R y es ≡ true → below_all R x es ≡ true
  below_tied x y [] l h = refl
  below_tied x y (e ∷ es) l h =
      let less = less_of (R y e.0) (first_so (is_lt (R y e.0)) (below_all R y es) h) in
      rw (o.congr x y e.0 l ∙ less, below_tied x y es l (second_so (is_lt (R y e.0)) (below_all R y es) h)) refl

pub eq_true : (r : Ordering) → is_eq r ≡ true → r ≡ Equal
eq_true Less e = absurd (cc)
eq_true Equal e = refl
eq_true Greater e = absurd (cc)

module _ {K X : Type 0} (R : K → K → Ordering) where
  pub without_none : (k : K) (es : List (K × X)) → entries.find R k es ≡ None → without R k es ≡ es
  without_none k [] f = refl
  without_none k (e ∷ es) f = by_eq (eq_by_cmp R k e.0) refl (λ g. without_none k es g)
    where
      by_eq : (t : Bool) → eq_by_cmp R k e.0 ≡ t → (entries.find R k es ≡ None → without R k es ≡ es) → without R k (e ∷ es) ≡ e ∷ es
      by_eq true t rest = absurd (let clash : Some e.1 ≡ None = rw t at f in cc)
      by_eq false t rest = rw t (ap (λ fs. e ∷ fs) (rest (rw t at f)))

module _ {K V : Type 0} (R : K → K → Ordering) (o : IsTotalOrder R) where
  pub find_shown : (q : K) (es : List (K × Option V)) → is_sorted R es ≡ true → entries.find R q (shown es) ≡ joined (entries.find R q es)
  find_shown q [] h = refl
  find_shown q (e ∷ es) h =
      let below = first_so (below_all R e.0 es) (is_sorted R es) h in
      by_value e.1 (eq_by_cmp R q e.0) refl below (find_shown q es (second_so (below_all R e.0 es) (is_sorted R es) h))
    where
      by_value : (v : Option V) (t : Bool) → eq_by_cmp R q e.0 ≡ t → below_all R e.0 es ≡ true → entries.find R q (shown es) ≡ joined (entries.find R q es) → entries.find R q (with_value e.0 v (shown es)) ≡ joined (cond (eq_by_cmp R q e.0) (Some v) (entries.find R q es))
      by_value None true t below rest = rw t (above_none R o q e.0 (shown es) (eq_true (R q e.0) t) (below_shown R e.0 es below))
      by_value None false t below rest = rw t rest
      by_value (Some v) true t below rest = rw t refl
      by_value (Some v) false t below rest = rw t rest

  -- ---- changes

  pub shown_without : (k : K) (es : List (K × Option V)) → shown (without R k es) ≡ without R k (shown es)
  shown_without k es = shown_filter (λ x. not (eq_by_cmp R k x)) es

  -- a key whose value goes
  pub shown_hidden : (k : K) (w : Option V) (es : List (K × Option V)) → is_sorted R es ≡ true → entries.find R k es ≡ Some w → shown (put R k None es) ≡ without R k (shown es)
  shown_hidden k w [] h f = absurd (cc)
  shown_hidden k w (e ∷ es) h f =
      let below = first_so (below_all R e.0 es) (is_sorted R es) h in
      by_cmp (R k e.0) refl below (λ f. shown_hidden k w es (second_so (below_all R e.0 es) (is_sorted R es) h) f)
    where
      value_gone : (v : Option V) → R k e.0 ≡ Equal → below_all R e.0 (shown es) ≡ true → shown es ≡ without R k (with_value e.0 v (shown es))
      value_gone None t b = sym (above_kept R o k e.0 (shown es) t b)
      value_gone (Some v) t b = let here : eq_by_cmp R k e.0 ≡ true = ap is_eq t in rw here (sym (above_kept R o k e.0 (shown es) t b))

      value_stays : (v : Option V) (fs : List (K × V)) → R k e.0 ≡ Greater → fs ≡ without R k (shown es) → with_value e.0 v fs ≡ without R k (with_value e.0 v (shown es))
      value_stays None fs t p = p
      value_stays (Some v) fs t p = let here : eq_by_cmp R k e.0 ≡ false = ap is_eq t in rw here (ap (λ gs. (e.0, v) ∷ gs) p)

      by_cmp : (r : Ordering) → R k e.0 ≡ r → below_all R e.0 es ≡ true → (entries.find R k es ≡ Some w → shown (put R k None es) ≡ without R k (shown es)) → shown (by_order r ((k, None) ∷ e ∷ es) ((e.0, None) ∷ es) (e ∷ put R k None es)) ≡ without R k (with_value e.0 e.1 (shown es))
      by_cmp Less t below s =
          let here : eq_by_cmp R k e.0 ≡ false = ap is_eq t in
          let none = above_lower t below in
          absurd (let clash : None ≡ Some w = sym none ∙ (rw here at f) in cc)
        where
          above_lower : R k e.0 ≡ Less → below_all R e.0 es ≡ true → entries.find R k es ≡ None
          above_lower l b = nothing es (below_down R o k e.0 es l b)
            where
              nothing : (fs : List (K × Option V)) → below_all R k fs ≡ true → entries.find R k fs ≡ None
              nothing [] b = refl
              nothing (g ∷ fs) b =
                  let here : eq_by_cmp R k g.0 ≡ false = ap is_eq (less_of (R k g.0) (first_so (is_lt (R k g.0)) (below_all R k fs) b)) in
                  rw here (nothing fs (second_so (is_lt (R k g.0)) (below_all R k fs) b))
      by_cmp Equal t below s = value_gone e.1 t (below_shown R e.0 es below)
      by_cmp Greater t below s =
          let here : eq_by_cmp R k e.0 ≡ false = ap is_eq t in
          value_stays e.1 (shown (put R k None es)) t (s (rw here at f))

  -- a key that gets a value
  pub shown_put : IsAntisymmetric R → (k : K) (v : V) (es : List (K × Option V)) → is_sorted R es ≡ true → shown (put R k (Some v) es) ≡ put R k v (shown es)
  shown_put exact k v [] h = refl
  shown_put exact k v (e ∷ es) h =
      by_cmp (R k e.0) refl (first_so (below_all R e.0 es) (is_sorted R es) h) (shown_put exact k v es (second_so (below_all R e.0 es) (is_sorted R es) h))
    where
      value_put : (w : Option V) → R k e.0 ≡ Less → below_all R e.0 (shown es) ≡ true → (k, v) ∷ with_value e.0 w (shown es) ≡ put R k v (with_value e.0 w (shown es))
      value_put None t b = sym (put_first R o k v (shown es) (below_down R o k e.0 (shown es) t b))
      value_put (Some w) t b = rw t refl

      value_set : (w : Option V) → R k e.0 ≡ Equal → below_all R e.0 (shown es) ≡ true → (e.0, v) ∷ shown es ≡ put R k v (with_value e.0 w (shown es))
      value_set None t b = ap (λ x. (x, v) ∷ shown es) (sym (exact k e.0 t)) ∙ sym (put_first R o k v (shown es) (below_tied R o k e.0 (shown es) t b))
      value_set (Some w) t b = rw t refl

      value_after : (w : Option V) (fs : List (K × V)) → R k e.0 ≡ Greater → fs ≡ put R k v (shown es) → with_value e.0 w fs ≡ put R k v (with_value e.0 w (shown es))
      value_after None fs t p = p
      value_after (Some w) fs t p = rw t (ap (λ gs. (e.0, w) ∷ gs) p)

      by_cmp : (r : Ordering) → R k e.0 ≡ r → below_all R e.0 es ≡ true → shown (put R k (Some v) es) ≡ put R k v (shown es) → shown (by_order r ((k, Some v) ∷ e ∷ es) ((e.0, Some v) ∷ es) (e ∷ put R k (Some v) es)) ≡ put R k v (with_value e.0 e.1 (shown es))
      by_cmp Less t below rest = value_put e.1 t (below_shown R e.0 es below)
      by_cmp Equal t below rest = value_set e.1 t (below_shown R e.0 es below)
      by_cmp Greater t below rest = value_after e.1 (shown (put R k (Some v) es)) t rest

  -- a key that has a value gets another
  pub shown_set : (k : K) (v w : V) (es : List (K × Option V)) → is_sorted R es ≡ true → entries.find R k es ≡ Some (Some w) → shown (put R k (Some v) es) ≡ put R k v (shown es)
  shown_set k v w [] h f = absurd (cc)
  shown_set k v w (e ∷ es) h f =
      by_cmp (R k e.0) refl (first_so (below_all R e.0 es) (is_sorted R es) h) (λ g. shown_set k v w es (second_so (below_all R e.0 es) (is_sorted R es) h) g)
    where
      value_set : (u : Option V) → Some u ≡ Some (Some w) → R k e.0 ≡ Equal → (e.0, v) ∷ shown es ≡ put R k v (with_value e.0 u (shown es))
      value_set None g t = absurd (cc)
      value_set (Some u) g t = rw t refl

      value_after : (u : Option V) (fs : List (K × V)) → R k e.0 ≡ Greater → fs ≡ put R k v (shown es) → with_value e.0 u fs ≡ put R k v (with_value e.0 u (shown es))
      value_after None fs t p = p
      value_after (Some u) fs t p = rw t (ap (λ gs. (e.0, u) ∷ gs) p)

      by_cmp : (r : Ordering) → R k e.0 ≡ r → below_all R e.0 es ≡ true → (entries.find R k es ≡ Some (Some w) → shown (put R k (Some v) es) ≡ put R k v (shown es)) → shown (by_order r ((k, Some v) ∷ e ∷ es) ((e.0, Some v) ∷ es) (e ∷ put R k (Some v) es)) ≡ put R k v (with_value e.0 e.1 (shown es))
      by_cmp Less t below rest =
          let here : eq_by_cmp R k e.0 ≡ false = ap is_eq t in
          let none = nothing es (below_down R o k e.0 es t below) in
          absurd (let clash : None ≡ Some (Some w) = sym none ∙ (rw here at f) in cc)
        where
          nothing : (fs : List (K × Option V)) → below_all R k fs ≡ true → entries.find R k fs ≡ None
          nothing [] b = refl
          nothing (g ∷ fs) b =
              let here : eq_by_cmp R k g.0 ≡ false = ap is_eq (less_of (R k g.0) (first_so (is_lt (R k g.0)) (below_all R k fs) b)) in
              rw here (nothing fs (second_so (is_lt (R k g.0)) (below_all R k fs) b))
      by_cmp Equal t below rest = let here : eq_by_cmp R k e.0 ≡ true = ap is_eq t in value_set e.1 (rw here at f) t
      by_cmp Greater t below rest = let here : eq_by_cmp R k e.0 ≡ false = ap is_eq t in value_after e.1 (shown (put R k (Some v) es)) t (rest (rw here at f))

  -- how many are shown then
  pub shown_more : (k : K) (v : V) (es : List (K × Option V)) → is_sorted R es ≡ true → length (shown (put R k (Some v) es)) ≡ length (shown es) + (1 - cond (is_some (joined (entries.find R k es))) 1 0)
  shown_more k v [] h = refl
  shown_more k v (e ∷ es) h =
      by_cmp (R k e.0) refl (first_so (below_all R e.0 es) (is_sorted R es) h) (shown_more k v es (second_so (below_all R e.0 es) (is_sorted R es) h))
    where
      count : Option V → ℕ
      count w = length (with_value e.0 w (shown es))

      set_one : (w : Option V) → suc (length (shown es)) ≡ count w + (1 - cond (is_some w) 1 0)
      set_one None = omega arith
      set_one (Some w) = omega arith

      after_one : (w : Option V) (n : ℕ) (fs : List (K × V)) → length fs ≡ length (shown es) + n → length (with_value e.0 w fs) ≡ count w + n
      after_one None n fs p = p
      after_one (Some w) n fs p = omega (arith, p)

      by_cmp : (r : Ordering) → R k e.0 ≡ r → below_all R e.0 es ≡ true → length (shown (put R k (Some v) es)) ≡ length (shown es) + (1 - cond (is_some (joined (entries.find R k es))) 1 0)
          → length (shown (by_order r ((k, Some v) ∷ e ∷ es) ((e.0, Some v) ∷ es) (e ∷ put R k (Some v) es))) ≡ count e.1 + (1 - cond (is_some (joined (cond (is_eq r) (Some e.1) (entries.find R k es)))) 1 0)
      by_cmp Less t below rest =
          let none = nothing es (below_down R o k e.0 es t below) in
          let gone : ◌≡◌ {A = ℕ} (cond (is_some (joined (entries.find R k es))) 1 0) 0 = ap (λ o. cond (is_some (joined o)) 1 0) none in
          omega (arith, gone)
        where
          nothing : (fs : List (K × Option V)) → below_all R k fs ≡ true → entries.find R k fs ≡ None
          nothing [] b = refl
          nothing (g ∷ fs) b =
              let here : eq_by_cmp R k g.0 ≡ false = ap is_eq (less_of (R k g.0) (first_so (is_lt (R k g.0)) (below_all R k fs) b)) in
              rw here (nothing fs (second_so (is_lt (R k g.0)) (below_all R k fs) b))
      by_cmp Equal t below rest = set_one e.1
      by_cmp Greater t below rest = after_one e.1 (1 - cond (is_some (joined (entries.find R k es))) 1 0) (shown (put R k (Some v) es)) rest

pub some_mapped : {A B : Type 0} (f : A → B) (o : Option A) → option_map f o ≡ None → is_some o ≡ true → ⊥
some_mapped f None e t = absurd (cc)
some_mapped f (Some x) e t = absurd (cc)

-- ---- by a point

abbrev pub head_of : {A : Type 0} → List A → Option A
head_of [] = None
head_of (x ∷ xs) = Some x

head_append : {A : Type 0} (xs : List A) (y : A) → head_of (xs ++ y ∷ []) ≡ option_or (head_of xs) (Some y)
head_append [] y = refl
head_append (x ∷ xs) y = refl

or_none : {A : Type 0} (a : Option A) → a ≡ option_or a None
or_none None = refl
or_none (Some x) = refl

pub first_kept : {A : Type 0} (q : A → Bool) (xs : List A) → find q xs ≡ head_of (filter q xs)
first_kept q [] = refl
first_kept q (x ∷ xs) = elim (q x) as (λ t. cond t (Some x) (find q xs) ≡ head_of (cond t (x ∷ filter q xs) (filter q xs))) [ true ↦ refl | false ↦ first_kept q xs ]

pub last_kept : {A : Type 0} (q : A → Bool) (xs : List A) → find_last q xs ≡ head_of (reverse (filter q xs))
last_kept q [] = refl
last_kept q (x ∷ xs) =
    elim (q x) as (λ t. option_or (find_last q xs) (cond t (Some x) None) ≡ head_of (reverse (cond t (x ∷ filter q xs) (filter q xs)))) [
      | true ↦ ap (λ o. option_or o (Some x)) (last_kept q xs) ∙ sym (ap head_of (reverse-append (x ∷ []) (filter q xs)) ∙ head_append (reverse (filter q xs)) x)
      | false ↦ sym (or_none (find_last q xs)) ∙ last_kept q xs
    ]

module _ {K V : Type 0} (q : K → Bool) where
  pub first_shown : (es : List (K × Option V)) (k : K) (v : V) → find (λ e. q e.0) es ≡ Some (k, Some v) → find (λ e. q e.0) (shown es) ≡ Some (k, v)
  first_shown [] k v f = absurd (cc)
  first_shown (e ∷ es) k v f = by_test (q e.0) e.1 refl refl f (first_shown es k v)
    where
      by_test : (t : Bool) (w : Option V) → q e.0 ≡ t → e.1 ≡ w → cond t (Some e) (find (λ e. q e.0) es) ≡ Some (k, Some v) → (find (λ e. q e.0) es ≡ Some (k, Some v) → find (λ e. q e.0) (shown es) ≡ Some (k, v)) → find (λ e. q e.0) (with_value e.0 w (shown es)) ≡ Some (k, v)
      by_test false None t u f rest = rest f
      by_test false (Some w) t u f rest = rw t (rest f)
      by_test true None t u f rest =
          let here : e ≡ (k, Some v) = cc in
          absurd (let clash : None ≡ Some v = sym u ∙ ap (λ x. x.1) here in cc)
      by_test true (Some w) t u f rest =
          let here : e ≡ (k, Some v) = cc in
          let value : Some w ≡ Some v = sym u ∙ ap (λ x. x.1) here in
          let same : w ≡ v = cc in
          rw t (ap (λ x. Some (x, w)) (ap (λ x. x.0) here) ∙ ap (λ x. Some (k, x)) same)

  pub none_shown : (es : List (K × Option V)) → find (λ e. q e.0) es ≡ None → find (λ e. q e.0) (shown es) ≡ None
  none_shown [] f = refl
  none_shown (e ∷ es) f = by_test (q e.0) e.1 refl f (none_shown es)
    where
      by_test : (t : Bool) (w : Option V) → q e.0 ≡ t → cond t (Some e) (find (λ e. q e.0) es) ≡ None → (find (λ e. q e.0) es ≡ None → find (λ e. q e.0) (shown es) ≡ None) → find (λ e. q e.0) (with_value e.0 w (shown es)) ≡ None
      by_test true w t f rest = absurd (cc)
      by_test false None t f rest = rest f
      by_test false (Some w) t f rest = rw t (rest f)

  pub none_before : (es : List (K × Option V)) → find_last (λ e. q e.0) es ≡ None → find_last (λ e. q e.0) (shown es) ≡ None
  none_before [] f = refl
  none_before (e ∷ es) f = by_last (find_last (λ e. q e.0) es) (q e.0) e.1 refl refl f (none_before es)
    where
      by_last : (l : Option (K × Option V)) (t : Bool) (w : Option V) → find_last (λ e. q e.0) es ≡ l → q e.0 ≡ t → option_or l (cond t (Some e) None) ≡ None → (find_last (λ e. q e.0) es ≡ None → find_last (λ e. q e.0) (shown es) ≡ None) → find_last (λ e. q e.0) (with_value e.0 w (shown es)) ≡ None
      by_last (Some x) t w l u f rest = absurd (cc)
      by_last None true w l u f rest = absurd (cc)
      by_last None false None l u f rest = rest l
      by_last None false (Some w) l u f rest = rw (rest l, u) refl

  pub last_shown : (es : List (K × Option V)) (k : K) (v : V) → find_last (λ e. q e.0) es ≡ Some (k, Some v) → find_last (λ e. q e.0) (shown es) ≡ Some (k, v)
  last_shown [] k v f = absurd (cc)
  last_shown (e ∷ es) k v f = by_last (find_last (λ e. q e.0) es) (q e.0) e.1 refl refl refl f (last_shown es k v)
    where
      by_last : (l : Option (K × Option V)) (t : Bool) (w : Option V) → find_last (λ e. q e.0) es ≡ l → q e.0 ≡ t → e.1 ≡ w → option_or l (cond t (Some e) None) ≡ Some (k, Some v) → (find_last (λ e. q e.0) es ≡ Some (k, Some v) → find_last (λ e. q e.0) (shown es) ≡ Some (k, v)) → find_last (λ e. q e.0) (with_value e.0 w (shown es)) ≡ Some (k, v)
      by_last (Some x) t None l u a f rest = rest (l ∙ f)
      by_last (Some x) t (Some w) l u a f rest = rw (rest (l ∙ f)) refl
      by_last None false w l u a f rest = absurd (cc)
      by_last None true None l u a f rest =
          let here : e ≡ (k, Some v) = cc in
          absurd (let clash : None ≡ Some v = sym a ∙ ap (λ x. x.1) here in cc)
      by_last None true (Some w) l u a f rest =
          let here : e ≡ (k, Some v) = cc in
          let value : Some w ≡ Some v = sym a ∙ ap (λ x. x.1) here in
          let same : w ≡ v = cc in
          rw (none_before es l, u) (ap (λ x. Some (x, w)) (ap (λ x. x.0) here) ∙ ap (λ x. Some (k, x)) same)

  -- the first, or the last, of all, where it is shown
  pub seen_first : (es : List (K × Option V)) (k : K) (h : Option V) → find (λ e. q e.0) es ≡ Some (k, h) → is_some (pair_of k h) ≡ true → find (λ e. q e.0) (shown es) ≡ pair_of k h
  seen_first es k None f t = absurd (cc)
  seen_first es k (Some v) f t = first_shown es k v f

  pub seen_last : (es : List (K × Option V)) (k : K) (h : Option V) → find_last (λ e. q e.0) es ≡ Some (k, h) → is_some (pair_of k h) ≡ true → find_last (λ e. q e.0) (shown es) ≡ pair_of k h
  seen_last es k None f t = absurd (cc)
  seen_last es k (Some v) f t = last_shown es k v f

pub mapped_some : {A B : Type 0} (f : A → B) (o : Option A) → is_some o ≡ true → is_some (option_map f o) ≡ true
mapped_some f None t = absurd (cc)
mapped_some f (Some x) t = refl

-- what a walk gives first
pub head_given : {A B : Type 0} (f : A → B) (r : Option A) (old new : List B) → MatchOption r ((old ≡ []) × (new ≡ [])) (λ x. old ≡ f x ∷ new) → option_map f r ≡ head_of old
head_given f None old new s = ap head_of (sym s.0)
head_given f (Some x) old new s = ap head_of (sym s)
