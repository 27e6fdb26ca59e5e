-- What the hidden keys are after changes of all pairs.
use Rattle.std.proofs.Common.{◌≡◌, Bool, true, false, not, cond, Option, Some, None, List, [], ◌∷◌, refl, sym, ap, ◌∙◌}
use Rattle.std.specs.List.{filter}
use Rattle.std.specs.Ordering.{is_eq, is_lt, eq_by_cmp}
use Rattle.std.specs.Cmp.{IsTotalOrder, tied_itself, first_so, second_so}
use Rattle.std.specs.declared.cmp.Ordering.{Ordering}
use Rattle.std.specs.declared.cmp.Ordering.TheVariants.{Less, Equal, Greater}
use Rattle.std.specs.FinMap.Entries as entries
use Rattle.std.specs.FinMap.Entries.{below_all, is_sorted, put, by_order}
use Rattle.btree.specs.Order.{Each, without}
use Rattle.steady_map.specs.Shown.{shown, hidden_keys, with_value, without_value, others}
use Rattle.steady_map.proofs.Shows.{less_of, below_down, below_tied}

-- what a test has passed, it passes again
filter_twice : {A : Type 0} (q : A → Bool) (xs : List A) → filter q (filter q xs) ≡ filter q xs
filter_twice q [] = refl
filter_twice q (x ∷ xs) = by_test (q x) refl (filter_twice q xs)
  where
    by_test : (t : Bool) → q x ≡ t → filter q (filter q xs) ≡ filter q xs → filter q (cond t (x ∷ filter q xs) (filter q xs)) ≡ cond t (x ∷ filter q xs) (filter q xs)
    by_test true u p = ap (λ b. cond b (x ∷ filter q (filter q xs)) (filter q (filter q xs))) u ∙ ap (λ ys. x ∷ ys) p
    by_test false u p = p

module _ {K V : Type 0} where
  kept_value : (q : K → Bool) (k : K) (v : Option V) (ks : List K) → filter q (without_value k v ks) ≡ cond (q k) (without_value k v (filter q ks)) (filter q ks)
  kept_value q k None ks = refl
  kept_value q k (Some v) ks = elim (q k) as (λ t. filter q ks ≡ cond t (filter q ks) (filter q ks)) [ true ↦ refl | false ↦ refl ]

  pub hidden_filter : (q : K → Bool) (es : List (K × Option V)) → hidden_keys (filter (λ e. q e.0) es) ≡ filter q (hidden_keys es)
  hidden_filter q [] = refl
  hidden_filter q (e ∷ es) =
      choose (q e.0) ∙ ap (λ ks. cond (q e.0) (without_value e.0 e.1 ks) ks) (hidden_filter q es) ∙ sym (kept_value q e.0 e.1 (hidden_keys es))
    where
      choose : (t : Bool) → hidden_keys (cond t (e ∷ filter (λ e. q e.0) es) (filter (λ e. q e.0) es)) ≡ cond t (without_value e.0 e.1 (hidden_keys (filter (λ e. q e.0) es))) (hidden_keys (filter (λ e. q e.0) es))
      choose true = refl
      choose false = refl

  -- pairs that are alike where a test passes hide the same keys there
  pub hidden_alike : (q : K → Bool) (es fs : List (K × Option V)) → filter (λ e. q e.0) es ≡ filter (λ e. q e.0) fs → filter q (hidden_keys es) ≡ filter q (hidden_keys fs)
  hidden_alike q es fs same = sym (hidden_filter q es) ∙ ap hidden_keys same ∙ hidden_filter q fs

  -- what all shown and all hidden keys have, all have
  pub have_all : (S : K → Type 0) (es : List (K × Option V)) → Each (λ (e : K × V). S e.0) (shown es) → Each S (hidden_keys es) → Each (λ (e : K × Option V). S e.0) es
  have_all S [] a b = tt
  have_all S (e ∷ es) a b = by_value e.1 a b (λ c d. have_all S es c d)
    where
      by_value : (w : Option V) → Each (λ (e : K × V). S e.0) (with_value e.0 w (shown es)) → Each S (without_value e.0 w (hidden_keys es)) → (Each (λ (e : K × V). S e.0) (shown es) → Each S (hidden_keys es) → Each (λ (e : K × Option V). S e.0) es) → S e.0 × Each (λ (e : K × Option V). S e.0) es
      by_value None a b rest = (b.0, rest a b.1)
      by_value (Some w) a b rest = (a.0, rest a.1 b)

module _ {K V : Type 0} (R : K → K → Ordering) where
  pub hidden_without : (k : K) (es : List (K × Option V)) → hidden_keys (without R k es) ≡ others R k (hidden_keys es)
  hidden_without k es = hidden_filter (λ x. not (eq_by_cmp R k x)) es

  -- the other keys, once this one has gone
  pub others_without : (k : K) (es : List (K × Option V)) → others R k (hidden_keys (without R k es)) ≡ others R k (hidden_keys es)
  others_without k es = ap (others R k) (hidden_without k es) ∙ filter_twice (λ x. not (eq_by_cmp R k x)) (hidden_keys es)

  -- below all there is none that ties
  none_tie : (k : K) (es : List (K × Option V)) → below_all R k es ≡ true → others R k (hidden_keys es) ≡ hidden_keys es
  none_tie k [] h = refl
  none_tie k (e ∷ es) h = by_value e.1 (ap is_eq (less_of (R k e.0) (first_so (is_lt (R k e.0)) (below_all R k es) h))) (none_tie k es (second_so (is_lt (R k e.0)) (below_all R k es) h))
    where
      by_value : (w : Option V) → eq_by_cmp R k e.0 ≡ false → others R k (hidden_keys es) ≡ hidden_keys es → others R k (without_value e.0 w (hidden_keys es)) ≡ without_value e.0 w (hidden_keys es)
      by_value None t rest = ap (λ b. cond (not b) (e.0 ∷ others R k (hidden_keys es)) (others R k (hidden_keys es))) t ∙ ap (λ ks. e.0 ∷ ks) rest
      by_value (Some w) t rest = rest

module _ {K V : Type 0} (R : K → K → Ordering) (o : IsTotalOrder R) where
  -- a key that gets a value
  pub hidden_put : (k : K) (v : V) (es : List (K × Option V)) → is_sorted R es ≡ true → hidden_keys (put R k (Some v) es) ≡ others R k (hidden_keys es)
  hidden_put k v [] h = refl
  hidden_put k v (e ∷ es) h =
      by_cmp (R k e.0) refl (first_so (below_all R e.0 es) (is_sorted R es) h) (hidden_put k v es (second_so (below_all R e.0 es) (is_sorted R es) h))
    where
      value_before : (w : Option V) → R k e.0 ≡ Less → others R k (hidden_keys es) ≡ hidden_keys es → without_value e.0 w (hidden_keys es) ≡ others R k (without_value e.0 w (hidden_keys es))
      value_before None t rest = sym (ap (λ r. cond (not (is_eq r)) (e.0 ∷ others R k (hidden_keys es)) (others R k (hidden_keys es))) t ∙ ap (λ ks. e.0 ∷ ks) rest)
      value_before (Some w) t rest = sym rest

      value_set : (w : Option V) → R k e.0 ≡ Equal → others R k (hidden_keys es) ≡ hidden_keys es → hidden_keys es ≡ others R k (without_value e.0 w (hidden_keys es))
      value_set None t rest = sym (ap (λ r. cond (not (is_eq r)) (e.0 ∷ others R k (hidden_keys es)) (others R k (hidden_keys es))) t ∙ rest)
      value_set (Some w) t rest = sym rest

      value_after : (w : Option V) (ks : List K) → R k e.0 ≡ Greater → ks ≡ others R k (hidden_keys es) → without_value e.0 w ks ≡ others R k (without_value e.0 w (hidden_keys es))
      value_after None ks t p = ap (λ ks. e.0 ∷ ks) p ∙ sym (ap (λ r. cond (not (is_eq r)) (e.0 ∷ others R k (hidden_keys es)) (others R k (hidden_keys es))) t)
      value_after (Some w) ks t p = p

      by_cmp : (r : Ordering) → R k e.0 ≡ r → below_all R e.0 es ≡ true → hidden_keys (put R k (Some v) es) ≡ others R k (hidden_keys es) → hidden_keys (by_order r ((k, Some v) ∷ e ∷ es) ((e.0, Some v) ∷ es) (e ∷ put R k (Some v) es)) ≡ others R k (without_value e.0 e.1 (hidden_keys es))
      by_cmp Less t below rest = value_before e.1 t (none_tie R k es (below_down R o k e.0 es t below))
      by_cmp Equal t below rest = value_set e.1 t (none_tie R k es (below_tied R o k e.0 es t below))
      by_cmp Greater t below rest = value_after e.1 (hidden_keys (put R k (Some v) es)) t rest

  -- a key that has a value gets another
  pub hidden_set : (k : K) (v w : V) (es : List (K × Option V)) → is_sorted R es ≡ true → entries.find R k es ≡ Some (Some w) → hidden_keys (put R k (Some v) es) ≡ hidden_keys es
  hidden_set k v w [] h f = absurd (cc)
  hidden_set k v w (e ∷ es) h f = by_cmp (R k e.0) refl (λ g. hidden_set k v w es (second_so (below_all R e.0 es) (is_sorted R es) h) g)
    where
      value_set : (u : Option V) → Some u ≡ Some (Some w) → hidden_keys es ≡ without_value e.0 u (hidden_keys es)
      value_set None g = absurd (cc)
      value_set (Some u) g = refl

      by_cmp : (r : Ordering) → R k e.0 ≡ r → (entries.find R k es ≡ Some (Some w) → hidden_keys (put R k (Some v) es) ≡ hidden_keys es) → hidden_keys (by_order r ((k, Some v) ∷ e ∷ es) ((e.0, Some v) ∷ es) (e ∷ put R k (Some v) es)) ≡ without_value e.0 e.1 (hidden_keys es)
      by_cmp Less t rest = refl
      by_cmp Equal t rest = let here : eq_by_cmp R k e.0 ≡ true = ap is_eq t in value_set e.1 (rw here at f)
      by_cmp Greater t rest = let here : eq_by_cmp R k e.0 ≡ false = ap is_eq t in ap (without_value e.0 e.1) (rest (rw here at f))

  -- the other keys, once this one has no value
  pub others_put : (k : K) (es : List (K × Option V)) → others R k (hidden_keys (put R k None es)) ≡ others R k (hidden_keys es)
  others_put k [] = ap (λ r. cond (not (is_eq r)) (k ∷ []) []) (tied_itself o k)
  others_put k (e ∷ es) = by_cmp (R k e.0) refl (others_put k es)
    where
      itself : (ks : List K) → others R k (k ∷ ks) ≡ others R k ks
      itself ks = ap (λ r. cond (not (is_eq r)) (k ∷ others R k ks) (others R k ks)) (tied_itself o k)

      value_gone : (w : Option V) → R k e.0 ≡ Equal → others R k (e.0 ∷ hidden_keys es) ≡ others R k (without_value e.0 w (hidden_keys es))
      value_gone None t = refl
      value_gone (Some w) t = ap (λ r. cond (not (is_eq r)) (e.0 ∷ others R k (hidden_keys es)) (others R k (hidden_keys es))) t

      value_stays : (w : Option V) (ks : List K) → others R k ks ≡ others R k (hidden_keys es) → others R k (without_value e.0 w ks) ≡ others R k (without_value e.0 w (hidden_keys es))
      value_stays None ks p = ap (λ ls. cond (not (eq_by_cmp R k e.0)) (e.0 ∷ ls) ls) p
      value_stays (Some w) ks p = p

      by_cmp : (r : Ordering) → R k e.0 ≡ r → others R k (hidden_keys (put R k None es)) ≡ others R k (hidden_keys es) → others R k (hidden_keys (by_order r ((k, None) ∷ e ∷ es) ((e.0, None) ∷ es) (e ∷ put R k None es))) ≡ others R k (without_value e.0 e.1 (hidden_keys es))
      by_cmp Less t rest = itself (without_value e.0 e.1 (hidden_keys es))
      by_cmp Equal t rest = value_gone e.1 t
      by_cmp Greater t rest = value_stays e.1 (hidden_keys (put R k None es)) rest
