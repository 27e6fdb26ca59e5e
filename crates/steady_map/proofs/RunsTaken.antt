-- What is left once a run of pairs is taken out or hidden.
use Rattle.std.proofs.lemmas.List.Elements.{filter-append}
use Rattle.std.proofs.Common.{◌≡◌, ℕ, ◌+◌, ◌≤◌, Bool, true, false, not, cond, Option, Some, None, List, [], ◌∷◌, ◌++◌, length, map, refl, sym, ap, ◌∙◌, subst, arith, length-append}
use Rattle.std.specs.List.{filter}
use Rattle.std.specs.Ordering.{is_lt}
use Rattle.std.specs.Cmp.{first_so, second_so}
use Rattle.std.specs.declared.cmp.Ordering.{Ordering}
use Rattle.std.specs.declared.cmp.Ordering.TheVariants.{Less}
use Rattle.std.specs.FinMap.Entries.{below_all, is_sorted}
use Rattle.btree.specs.Order.{Each}
use Rattle.btree.specs.Stretch.{IsStretch, is_in_run}
use Rattle.btree.specs.Values.{emptied}
use Rattle.steady_map.specs.Shown.{shown, hidden_keys, with_value, without_value, is_between}
use Rattle.steady_map.proofs.Shows.{less_of}

module _ {A : Type 0} where
  each_append : (P : A → Type 0) (xs ys : List A) → Each P xs → Each P ys → Each P (xs ++ ys)
  each_append P [] ys a b = b
  each_append P (x ∷ xs) ys a b = (a.0, each_append P xs ys a.1 b)

  each_front : (P : A → Type 0) (xs ys : List A) → Each P (xs ++ ys) → Each P xs
  each_front P [] ys a = tt
  each_front P (x ∷ xs) ys a = (a.0, each_front P xs ys a.1)

  each_back : (P : A → Type 0) (xs ys : List A) → Each P (xs ++ ys) → Each P ys
  each_back P [] ys a = a
  each_back P (x ∷ xs) ys a = each_back P xs ys a.1

  nothing : (xs : List A) → length xs ≡ 0 → xs ≡ []
  nothing [] e = refl
  nothing (x ∷ xs) e = absurd (omega (arith, e))

module _ {K V : Type 0} (from to : K → Bool) where
  none_kept : (es : List (K × V)) → Each (λ (e : K × V). is_in_run from to e ≡ true) es → filter (λ e. not (is_between from to e.0)) es ≡ []
  none_kept [] h = refl
  none_kept (e ∷ es) h = ap (λ b. cond (not b) (e ∷ filter (λ e. not (is_between from to e.0)) es) (filter (λ e. not (is_between from to e.0)) es)) h.0 ∙ none_kept es h.1

  all_kept : (es : List (K × V)) → Each (λ (e : K × V). is_in_run from to e ≡ false) es → filter (λ e. not (is_between from to e.0)) es ≡ es
  all_kept [] h = refl
  all_kept (e ∷ es) h = ap (λ b. cond (not b) (e ∷ filter (λ e. not (is_between from to e.0)) es) (filter (λ e. not (is_between from to e.0)) es)) h.0 ∙ ap (λ fs. e ∷ fs) (all_kept es h.1)

  ahead_outside : (es : List (K × V)) → Each (λ (e : K × V). from e.0 ≡ true) es → Each (λ (e : K × V). is_in_run from to e ≡ false) es
  ahead_outside [] h = tt
  ahead_outside (e ∷ es) h = (ap (λ b. cond b false (to e.0)) h.0, ahead_outside es h.1)

  -- how many are taken, and how many are left
  pub split_count : (es : List (K × V)) → length (filter (λ e. not (is_between from to e.0)) es) + length (filter (λ e. to e.0) (filter (λ e. not (from e.0)) es)) ≡ length es
  split_count [] = refl
  split_count (e ∷ es) = by_tests (from e.0) (to e.0) refl (split_count es)
    where
      kept : List (K × V)
      kept = filter (λ e. not (is_between from to e.0)) es

      rest : List (K × V)
      rest = filter (λ e. not (from e.0)) es

      by_tests : (f t : Bool) → to e.0 ≡ t → length (filter (λ e. not (is_between from to e.0)) es) + length (filter (λ e. to e.0) (filter (λ e. not (from e.0)) es)) ≡ length es
          → length (cond (not (cond f false t)) (e ∷ filter (λ e. not (is_between from to e.0)) es) (filter (λ e. not (is_between from to e.0)) es)) + length (filter (λ e. to e.0) (cond (not f) (e ∷ filter (λ e. not (from e.0)) es) (filter (λ e. not (from e.0)) es))) ≡ length (e ∷ es)
      by_tests true t u h = omega (arith, h)
      by_tests false true u h =
          let here : length (cond (to e.0) (e ∷ filter (λ e. to e.0) (filter (λ e. not (from e.0)) es)) (filter (λ e. to e.0) (filter (λ e. not (from e.0)) es))) ≡ length (e ∷ filter (λ e. to e.0) (filter (λ e. not (from e.0)) es)) = ap (λ b. length (cond b (e ∷ filter (λ e. to e.0) (filter (λ e. not (from e.0)) es)) (filter (λ e. to e.0) (filter (λ e. not (from e.0)) es)))) u in
          omega (arith, h, here)
      by_tests false false u h =
          let here : length (cond (to e.0) (e ∷ filter (λ e. to e.0) (filter (λ e. not (from e.0)) es)) (filter (λ e. to e.0) (filter (λ e. not (from e.0)) es))) ≡ length (filter (λ e. to e.0) (filter (λ e. not (from e.0)) es)) = ap (λ b. length (cond b (e ∷ filter (λ e. to e.0) (filter (λ e. not (from e.0)) es)) (filter (λ e. to e.0) (filter (λ e. not (from e.0)) es)))) u in
          omega (arith, h, here)

-- ---- a stretch taken out

module _ {K V : Type 0} (from to : K → Bool) (old : List (K × V)) (count : ℕ) (new : List (K × V)) (s : IsStretch from to old count new) where
  -- outside the run all is as before
  pub stretch_kept : filter (λ e. not (is_between from to e.0)) new ≡ filter (λ e. not (is_between from to e.0)) old
  stretch_kept =
      let q : K × V → Bool = λ e. not (is_between from to e.0) in
      ap (filter q) s.is ∙ filter-append q s.front s.back
      ∙ sym (ap (filter q) s.was ∙ filter-append q s.front (s.stretch ++ s.back) ∙ ap (λ es. filter q s.front ++ es) (filter-append q s.stretch s.back ∙ ap (λ es. es ++ filter q s.back) (none_kept from to s.stretch s.inside)))

  -- none was taken: there is no run
  pub stretch_end : count ≡ 0 → new ≡ filter (λ e. not (is_between from to e.0)) old
  stretch_end none =
      let q : K × V → Bool = λ e. not (is_between from to e.0) in
      let same : old ≡ s.front ++ s.back = s.was ∙ ap (λ es. s.front ++ (es ++ s.back)) (nothing s.stretch (s.size ∙ none)) in
      s.is ∙ sym (ap (filter q) same ∙ all_kept from to (s.front ++ s.back) (each_append (λ (e : K × V). is_in_run from to e ≡ false) s.front s.back (ahead_outside from to s.front s.ahead) (s.last none)))

  pub stretch_each : (P : K × V → Type 0) → Each P old → Each P new
  stretch_each P h =
      let all = subst (Each P) s.was h in
      subst (Each P) (sym s.is) (each_append P s.front s.back (each_front P s.front (s.stretch ++ s.back) all) (each_back P s.stretch s.back (each_back P s.front (s.stretch ++ s.back) all)))

  pub stretch_fewer : length new + count ≡ length old
  stretch_fewer =
      let a = ap length s.was in
      let b = ap length s.is in
      let n = s.size in
      omega (arith, a, b, n, length-append s.front (s.stretch ++ s.back), length-append s.stretch s.back, length-append s.front s.back)

-- ---- values that go alone

module _ {K V : Type 0} (from to : K → Bool) where
  pub shown_emptied : (es : List (K × Option V)) → shown (map (emptied None from to) es) ≡ filter (λ e. not (is_between from to e.0)) (shown es)
  shown_emptied [] = refl
  shown_emptied (e ∷ es) = by_value (is_between from to e.0) e.1 refl (shown_emptied es)
    where
      by_value : (t : Bool) (w : Option V) → is_between from to e.0 ≡ t → shown (map (emptied None from to) es) ≡ filter (λ e. not (is_between from to e.0)) (shown es) → with_value e.0 (cond t None w) (shown (map (emptied None from to) es)) ≡ filter (λ e. not (is_between from to e.0)) (with_value e.0 w (shown es))
      by_value true None t rest = rest
      by_value true (Some w) t rest = rest ∙ sym (ap (λ b. cond (not b) ((e.0, w) ∷ filter (λ e. not (is_between from to e.0)) (shown es)) (filter (λ e. not (is_between from to e.0)) (shown es))) t)
      by_value false None t rest = rest
      by_value false (Some w) t rest = ap (λ fs. (e.0, w) ∷ fs) rest ∙ sym (ap (λ b. cond (not b) ((e.0, w) ∷ filter (λ e. not (is_between from to e.0)) (shown es)) (filter (λ e. not (is_between from to e.0)) (shown es))) t)

  -- outside the run the same keys are hidden
  pub hidden_emptied : (es : List (K × Option V)) → filter (λ k. not (is_between from to k)) (hidden_keys (map (emptied None from to) es)) ≡ filter (λ k. not (is_between from to k)) (hidden_keys es)
  hidden_emptied [] = refl
  hidden_emptied (e ∷ es) = by_value (is_between from to e.0) e.1 refl (hidden_emptied es)
    where
      by_value : (t : Bool) (w : Option V) → is_between from to e.0 ≡ t → filter (λ k. not (is_between from to k)) (hidden_keys (map (emptied None from to) es)) ≡ filter (λ k. not (is_between from to k)) (hidden_keys es) → filter (λ k. not (is_between from to k)) (without_value e.0 (cond t None w) (hidden_keys (map (emptied None from to) es))) ≡ filter (λ k. not (is_between from to k)) (without_value e.0 w (hidden_keys es))
      by_value true None t rest = ap (λ ks. cond (not (is_between from to e.0)) (e.0 ∷ ks) ks) rest
      by_value true (Some w) t rest = ap (λ b. cond (not b) (e.0 ∷ filter (λ k. not (is_between from to k)) (hidden_keys (map (emptied None from to) es))) (filter (λ k. not (is_between from to k)) (hidden_keys (map (emptied None from to) es)))) t ∙ rest
      by_value false None t rest = ap (λ ks. cond (not (is_between from to e.0)) (e.0 ∷ ks) ks) rest
      by_value false (Some w) t rest = rest

-- ---- pairs that stand before a point

module _ {K : Type 0} (R : K → K → Ordering) (to : K → Bool) (down : (x y : K) → R x y ≡ Less → to y ≡ true → to x ≡ true) where
  turned : (x y : K) → R x y ≡ Less → to x ≡ false → to y ≡ false
  turned x y l e = by_test (to y) (down x y l)
    where
      by_test : (t : Bool) → (t ≡ true → to x ≡ true) → t ≡ false
      by_test true f = let g = f refl in absurd (cc)
      by_test false f = refl

module _ {K V : Type 0} (R : K → K → Ordering) (to : K → Bool) (down : (x y : K) → R x y ≡ Less → to y ≡ true → to x ≡ true) where
  none_before : (x : K) (es : List (K × V)) → to x ≡ false → below_all R x es ≡ true → filter (λ e. to e.0) es ≡ []
  none_before x [] e h = refl
  none_before x (f ∷ es) e h =
      let here = turned R to down x f.0 (less_of (R x f.0) (first_so (is_lt (R x f.0)) (below_all R x es) h)) e in
      ap (λ b. cond b (f ∷ filter (λ e. to e.0) es) (filter (λ e. to e.0) es)) here ∙ none_before x es e (second_so (is_lt (R x f.0)) (below_all R x es) h)

  -- from the first that doesn't on none does
  pub count_ends : (es fs : List (K × V)) (f : K × V) (n m : ℕ) → es ≡ f ∷ fs → is_sorted R es ≡ true → to f.0 ≡ false → n + length (filter (λ e. to e.0) es) ≡ m → n ≡ m
  count_ends es fs f n m is sorted e all =
      let s = subst (λ gs. is_sorted R gs ≡ true) is sorted in
      let none : filter (λ e. to e.0) es ≡ [] = ap (filter (λ e. to e.0)) is ∙ ap (λ b. cond b (f ∷ filter (λ e. to e.0) fs) (filter (λ e. to e.0) fs)) e ∙ none_before f.0 fs e (first_so (below_all R f.0 fs) (is_sorted R fs) s) in
      let size = ap length none in
      omega (arith, all, size)

  pub count_on : (es fs : List (K × V)) (f : K × V) (n m : ℕ) → es ≡ f ∷ fs → to f.0 ≡ true → n + length (filter (λ e. to e.0) es) ≡ m → n + 1 + length (filter (λ e. to e.0) fs) ≡ m
  count_on es fs f n m is e all =
      let one : length (filter (λ e. to e.0) es) ≡ length (f ∷ filter (λ e. to e.0) fs) = ap (λ gs. length (filter (λ e. to e.0) gs)) is ∙ ap (λ b. length (cond b (f ∷ filter (λ e. to e.0) fs) (filter (λ e. to e.0) fs))) e in
      omega (arith, all, one)

  pub sorted_on : (es fs : List (K × V)) (f : K × V) → es ≡ f ∷ fs → is_sorted R es ≡ true → is_sorted R fs ≡ true
  sorted_on es fs f is sorted = second_so (below_all R f.0 fs) (is_sorted R fs) (subst (λ gs. is_sorted R gs ≡ true) is sorted)

module _ {K V : Type 0} (to : K → Bool) where
  pub few_before : (es : List (K × V)) → length (filter (λ e. to e.0) es) ≤ length es
  few_before [] = omega arith
  few_before (e ∷ es) = elim (to e.0) as (λ t. length (cond t (e ∷ filter (λ e. to e.0) es) (filter (λ e. to e.0) es)) ≤ length (e ∷ es)) [ true ↦ omega (arith, few_before es) | false ↦ omega (arith, few_before es) ]
