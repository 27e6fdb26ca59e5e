-- A test of a finite map's entries, told by what `get` answers.
use Rattle.std.proofs.Common.{◌≡◌, Bool, true, false, List, [], ◌∷◌, refl, sym, ap, subst, ◌∙◌, inl, inr}
use Rattle.std.specs.Prelude.{◌||◌, cond, T, ◌⊎◌, Some, None}
use Rattle.std.specs.List.{list_any}
use Rattle.std.specs.declared.cmp.Ordering.{Ordering}
use Rattle.std.specs.Ordering.{is_eq, is_lt, eq_by_cmp}
use Rattle.std.specs.Cmp.{IsTotalOrder, tied_itself, first_so, second_so}
use Rattle.std.proofs.lemmas.Bool.{or_left, or_right}
use Rattle.std.specs.FinMap as finmap
use Rattle.std.specs.FinMap.{FinMap, IsAntisymmetric}
use Rattle.std.specs.FinMap.Entries.{below_all, is_sorted}
use Rattle.collation.specs.laws.Order.{is_less, is_equal}

pub true_of : (b : Bool) → T b → b ≡ true
true_of true h = refl
true_of false h = absurd h

pub either : (a b : Bool) → (a || b) ≡ true → (a ≡ true) ⊎ (b ≡ true)
either true b h = inl refl
either false b h = inr h

module _ {K X : Type 0} (R : K → K → Ordering) (o : IsTotalOrder R) (same : IsAntisymmetric R) where
  -- a key below all of a list is not in it
  pub not_found_itself : (x : K) (es : List (K × X)) → below_all R x es ≡ true → finmap.find R x es ≡ None
  not_found_itself x [] h = refl
  not_found_itself x (e ∷ es) h = rw (is_less (R x e.0) (first_so _ _ h)) (not_found_itself x es (second_so (is_lt (R x e.0)) _ h))

  -- a key found after the first isn't the first
  found_behind : (f : K × X) (fs : List (K × X)) (q : K) (x : X) → below_all R f.0 fs ≡ true → finmap.find R q fs ≡ Some x → eq_by_cmp R q f.0 ≡ false
  found_behind f fs q x below is = by_test (eq_by_cmp R q f.0) refl
    where
      by_test : (b : Bool) → eq_by_cmp R q f.0 ≡ b → b ≡ false
      by_test true e =
          let q_is : q ≡ f.0 = same q f.0 (is_equal (R q f.0) e) in
          let none : None ≡ Some x = sym (not_found_itself f.0 fs below) ∙ ap (λ z. finmap.find R z fs) (sym q_is) ∙ is in
          absurd (cc)
      by_test false e = refl

  some_entry : (P : K × X → Bool) (es : List (K × X)) → is_sorted R es ≡ true → list_any P es ≡ true → (k : K) × ((x : X) × (finmap.find R k es ≡ Some x) × (P (k, x) ≡ true))
  some_entry P [] h any = absurd (cc)
  some_entry P (f ∷ fs) h any = elim (either (P f) (list_any P fs) any) [
    | inl now ↦ (f.0, (f.1, ap (λ r. cond (is_eq r) (Some f.1) (finmap.find R f.0 fs)) (tied_itself o f.0), now))
    | inr later ↦
        let rest = some_entry P fs (second_so (below_all R f.0 fs) _ h) later in
        let apart = found_behind f fs rest.0 rest.1.0 (first_so _ _ h) rest.1.1 in
        (rest.0, (rest.1.0, ap (λ b. cond b (Some f.1) (finmap.find R rest.0 fs)) apart ∙ rest.1.1, rest.1.2))
  ]

  entry_there : (P : K × X → Bool) (es : List (K × X)) (k : K) (x : X) → finmap.find R k es ≡ Some x → P (k, x) ≡ true → list_any P es ≡ true
  entry_there P [] k x is p = absurd (cc)
  entry_there P (f ∷ fs) k x is p = by_test (eq_by_cmp R k f.0) refl is (entry_there P fs k x)
    where
      by_test : (b : Bool) → eq_by_cmp R k f.0 ≡ b → cond b (Some f.1) (finmap.find R k fs) ≡ Some x → (finmap.find R k fs ≡ Some x → P (k, x) ≡ true → list_any P fs ≡ true) → (P f || list_any P fs) ≡ true
      by_test true e is rest =
          let k_is : k ≡ f.0 = same k f.0 (is_equal (R k f.0) e) in
          let x_is : x ≡ f.1 = cc in
          or_left (P f) _ (subst (λ z. P z ≡ true) (λ i. (k_is i, x_is i)) p)
      by_test false e is rest = or_right (P f) _ (rest is p)

  pub some_entry_of : (P : K × X → Bool) (m : FinMap R X) → list_any P (finmap.entries m) ≡ true → (k : K) × ((x : X) × (finmap.get m k ≡ Some x) × (P (k, x) ≡ true))
  some_entry_of P m any = let found = some_entry P (finmap.entries m) (true_of _ (finmap.entries_sorted m)) any in (found.0, (found.1.0, finmap.get-entries m found.0 ∙ found.1.1, found.1.2))

  pub entry_of : (P : K × X → Bool) (m : FinMap R X) (k : K) (x : X) → finmap.get m k ≡ Some x → P (k, x) ≡ true → list_any P (finmap.entries m) ≡ true
  entry_of P m k x is p = entry_there P (finmap.entries m) k x (sym (finmap.get-entries m k) ∙ is) p
