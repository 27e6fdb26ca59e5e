-- The first pair from a point on, and the last before it.
use Rattle.std.proofs.Common.{◌≡◌, Bool, true, false, List, [], ◌∷◌, refl, sym, ap, subst, ◌∙◌}
use Rattle.std.specs.Prelude.{cond, not, Option, Some, None, IsSome}
use Rattle.std.specs.Option.{option_or}
use Rattle.std.specs.List.{find as first_of}
use Rattle.std.specs.declared.cmp.Ordering.{Ordering}
use Rattle.std.specs.declared.cmp.Ordering.TheVariants.{Less, Equal, Greater}
use Rattle.std.specs.Ordering.{is_lt, is_gt, is_eq, eq_by_cmp, ordering_reverse}
use Rattle.std.specs.Cmp.{IsTotalOrder, first_so, second_so}
use Rattle.std.specs.FinMap.{IsAntisymmetric, find, is_sorted}
use Rattle.std.specs.FinMap.Entries.{below_all}
use Rattle.collation.specs.laws.Order.{is_less, is_equal}
use Rattle.btree.specs.Order.{find_last}

module _ {K X : Type 0} (R : K → K → Ordering) (o : IsTotalOrder R) (same : IsAntisymmetric R) where
  -- ---- the first from a key on

  none_above : (q k : K) (es : List (K × X)) → R q k ≡ Less → below_all R k es ≡ true → find R q es ≡ None
  none_above q k [] l h = refl
  none_above q k (e ∷ es) l h =
      let t : R q e.0 ≡ Less = o.trans q k e.0 l (is_less (R k e.0) (first_so _ _ h)) in
      rw t (none_above q k es l (second_so (is_lt (R k e.0)) _ h))

  -- what is at the key, told by the first pair from it on
  abbrev pub at_key : K → Option (K × X) → Option X
  at_key q None = None
  at_key q (Some e) = cond (is_eq (R e.0 q)) (Some e.1) None

  pub found_first : (q : K) (es : List (K × X)) → is_sorted R es ≡ true → find R q es ≡ at_key q (first_of (λ e. not (is_lt (R e.0 q))) es)
  found_first q [] h = refl
  found_first q (e ∷ es) h = by_order (R e.0 q) refl (found_first q es (second_so (below_all R e.0 es) _ h)) (λ l. none_above q e.0 es l (first_so _ _ h))
    where
      by_order : (r : Ordering) → R e.0 q ≡ r → find R q es ≡ at_key q (first_of (λ f. not (is_lt (R f.0 q))) es) → (R q e.0 ≡ Less → find R q es ≡ None)
          → cond (is_eq (R q e.0)) (Some e.1) (find R q es) ≡ at_key q (cond (not (is_lt (R e.0 q))) (Some e) (first_of (λ f. not (is_lt (R f.0 q))) es))
      by_order Less is rest none =
          let t : R q e.0 ≡ Greater = o.antisymm q e.0 ∙ ap ordering_reverse is in
          rw (t, is) rest
      by_order Equal is rest none =
          let t : R q e.0 ≡ Equal = o.antisymm q e.0 ∙ ap ordering_reverse is in
          rw (t, is) (sym (ap (λ r. cond (is_eq r) (Some e.1) None) is))
      by_order Greater is rest none =
          let t : R q e.0 ≡ Less = o.antisymm q e.0 ∙ ap ordering_reverse is in
          rw (t, is) (none t ∙ sym (ap (λ r. cond (is_eq r) (Some e.1) None) is))

  -- ---- the last that passes a test

  below_last : (P : K → Bool) (k : K) (es : List (K × X)) (p : K × X) → below_all R k es ≡ true → find_last (λ e. P e.0) es ≡ Some p → R k p.0 ≡ Less
  below_last P k [] p h is = absurd (cc)
  below_last P k (e ∷ es) p h is = by_rest (find_last (λ f. P f.0) es) refl is (below_last P k es p (second_so (is_lt (R k e.0)) _ h))
    where
      by_test : (b : Bool) → cond b (Some e) None ≡ Some p → R k p.0 ≡ Less
      by_test true is = let t : e ≡ p = cc in subst (λ z. R k z.0 ≡ Less) t (is_less (R k e.0) (first_so _ _ h))
      by_test false is = absurd (cc)

      by_rest : (r : Option (K × X)) → find_last (λ f. P f.0) es ≡ r → option_or r (cond (P e.0) (Some e) None) ≡ Some p → (find_last (λ f. P f.0) es ≡ Some p → R k p.0 ≡ Less) → R k p.0 ≡ Less
      by_rest None was is rest = by_test (P e.0) is
      by_rest (Some f) was is rest = rest (was ∙ is)

  -- where none passes no key that is there does
  pub none_passes : (P : K → Bool) (es : List (K × X)) → find_last (λ e. P e.0) es ≡ None → (q : K) → IsSome (find R q es) → P q ≡ true → ⊥
  none_passes P [] is q there p = absurd (cc)
  none_passes P (e ∷ es) is q there p = by_rest (find_last (λ f. P f.0) es) refl is (λ was. none_passes P es was q)
    where
      by_key : (b : Bool) → eq_by_cmp R q e.0 ≡ b → (c : Bool) → P e.0 ≡ c → cond c (Some e) None ≡ None → IsSome (cond b (Some e.1) (find R q es)) → (IsSome (find R q es) → P q ≡ true → ⊥) → ⊥
      by_key b t true u is there rest = absurd (cc)
      by_key true t false u is there rest =
          let k : q ≡ e.0 = same q e.0 (is_equal (R q e.0) t) in
          let z : true ≡ false = sym p ∙ ap P k ∙ u in
          absurd (cc)
      by_key false t false u is there rest = rest there p

      by_rest : (r : Option (K × X)) → find_last (λ f. P f.0) es ≡ r → option_or r (cond (P e.0) (Some e) None) ≡ None → (find_last (λ f. P f.0) es ≡ None → IsSome (find R q es) → P q ≡ true → ⊥) → ⊥
      by_rest None was is rest = by_key (eq_by_cmp R q e.0) refl (P e.0) refl is there (rest was)
      by_rest (Some f) was is rest = absurd (cc)

  pub record IsLast (P : K → Bool) (es : List (K × X)) (p : K × X) : Type 0 where
    pub passes : P p.0 ≡ true
    pub latest : (q : K) → IsSome (find R q es) → P q ≡ true → is_gt (R q p.0) ≡ false

  pub last_is : (P : K → Bool) (es : List (K × X)) (p : K × X) → is_sorted R es ≡ true → find_last (λ e. P e.0) es ≡ Some p → IsLast P es p
  last_is P [] p h is = absurd (cc)
  last_is P (e ∷ es) p h is = by_rest (find_last (λ f. P f.0) es) refl is (last_is P es p (second_so (below_all R e.0 es) _ h))
    where
      at_first : (q : K) → eq_by_cmp R q e.0 ≡ true → R e.0 p.0 ≡ Less → is_gt (R q p.0) ≡ false
      at_first q t l = ap is_gt (ap (λ k. R k p.0) (same q e.0 (is_equal (R q e.0) t)) ∙ l)

      alone : (c : Bool) → P e.0 ≡ c → cond c (Some e) None ≡ Some p → ((q : K) → IsSome (find R q es) → P q ≡ true → ⊥) → IsLast P (e ∷ es) p
      alone false u is none = absurd (cc)
      alone true u is none =
          let t : e ≡ p = cc in
          record { passes = subst (λ z. P z.0 ≡ true) t u; latest = λ q there pass. by_key q (eq_by_cmp R q e.0) refl t there pass }
        where
          by_key : (q : K) (b : Bool) → eq_by_cmp R q e.0 ≡ b → e ≡ p → IsSome (cond b (Some e.1) (find R q es)) → P q ≡ true → is_gt (R q p.0) ≡ false
          by_key q true t s there pass = ap is_gt (ap (R q) (sym (ap (λ (z : K × X). z.0) s)) ∙ is_equal (R q e.0) t)
          by_key q false t s there pass = absurd (none q there pass)

      later : (f : K × X) → find_last (λ g. P g.0) es ≡ Some f → Some f ≡ Some p → IsLast P es p → IsLast P (e ∷ es) p
      later f was is rest = record { passes = rest.passes; latest = λ q there pass. by_key q (eq_by_cmp R q e.0) refl there pass }
        where
          by_key : (q : K) (b : Bool) → eq_by_cmp R q e.0 ≡ b → IsSome (cond b (Some e.1) (find R q es)) → P q ≡ true → is_gt (R q p.0) ≡ false
          by_key q true t there pass = at_first q t (below_last P e.0 es p (first_so _ _ h) (was ∙ is))
          by_key q false t there pass = rest.latest q there pass

      by_rest : (r : Option (K × X)) → find_last (λ f. P f.0) es ≡ r → option_or r (cond (P e.0) (Some e) None) ≡ Some p → (find_last (λ f. P f.0) es ≡ Some p → IsLast P es p) → IsLast P (e ∷ es) p
      by_rest None was is rest = alone (P e.0) refl is (none_passes P es was)
      by_rest (Some f) was is rest = later f was is (rest (was ∙ is))
