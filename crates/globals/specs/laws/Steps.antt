-- From a member of what doesn't stand before a cut to those after it.
use Rattle.std.proofs.Common.{◌≡◌, ℕ, Bool, true, false, List, [], ◌∷◌, ◌++◌, refl, sym, ap, subst, ◌∙◌, Some}
use Rattle.std.specs.Prelude.{cond, not, filter}
use Rattle.std.specs.declared.cmp.Ordering.{Ordering}
use Rattle.std.specs.declared.cmp.Ordering.TheVariants.{Less, Greater}
use Rattle.std.specs.Ordering.{is_lt}
use Rattle.std.specs.Cmp.{IsTotalOrder, tied_itself, first_so, second_so}
use Rattle.std.specs.List.{find}
use Rattle.std.specs.FinMap as finmap
use Rattle.std.specs.FinMap.{is_sorted}
use Rattle.std.specs.FinMap.Entries.{below_all}
use Rattle.collation.specs.Reference.{Reference}
use Rattle.collation.specs.Order.{ref_cmp}
use Rattle.collation.specs.laws.Order.{ref_cmp_total, is_less, turned}
use Rattle.collation.specs.Database.{Database}
use Rattle.globals.specs.declared.cut.Cut.{Cut}
use Rattle.globals.specs.Cuts.{stands_before, first_from_cut, entries_from}
use Rattle.globals.specs.laws.Nearest.{later_found, still_fails, true_of}
use Rattle.globals.specs.laws.Cuts.{stands_before-earlier}

module _ {A : Type 0} (p : A → Bool) where
  pub head_found : (es t : List A) (e : A) → filter p es ≡ e ∷ t → find p es ≡ Some e
  head_found [] t e is = absurd (cc)
  head_found (x ∷ es) t e is = elim (p x) as (λ b. cond b (x ∷ filter p es) (filter p es) ≡ e ∷ t → cond b (Some x) (find p es) ≡ Some e) [
    | true ↦ λ is. let same : x ≡ e = cc in ap Some same
    | false ↦ λ is. head_found es t e is
  ] is

pub tails : {A : Type 0} (a b : A) (xs ys : List A) → a ∷ xs ≡ b ∷ ys → xs ≡ ys
tails a b xs ys e = cc

module _ {K X : Type 0} (R : K → K → Ordering) where
  all_left : (p : K → Bool) (x : K) (es : List (K × X)) → ((y : K) → R x y ≡ Less → p y ≡ true) → below_all R x es ≡ true → filter (λ e. p e.0) es ≡ es
  all_left p x [] passes h = refl
  all_left p x (e ∷ es) passes h = rw (passes e.0 (is_less _ (first_so _ _ h))) (ap (λ l. e ∷ l) (all_left p x es passes (second_so (is_lt (R x e.0)) _ h)))

  module _ (o : IsTotalOrder R) (B : K → Bool) (early : (x y : K) → R x y ≡ Less → B y ≡ true → B x ≡ true) where
    -- the first that is left, and those after it
    pub step : (es : List (K × X)) (f : K × X) → is_sorted R es ≡ true → find (λ e. not (B e.0)) es ≡ Some f → filter (λ e. not (B e.0)) es ≡ f ∷ filter (λ e. not (not (is_lt (R f.0 e.0)))) es
    step [] f h is = absurd (cc)
    step (e ∷ es) f h is =
        elim (B e.0) as (λ b. B e.0 ≡ b → cond (not b) (Some e) (find (λ e. not (B e.0)) es) ≡ Some f → cond (not b) (e ∷ filter (λ e. not (B e.0)) es) (filter (λ e. not (B e.0)) es) ≡ f ∷ cond (not (not (is_lt (R f.0 e.0)))) (e ∷ filter (λ e. not (not (is_lt (R f.0 e.0)))) es) (filter (λ e. not (not (is_lt (R f.0 e.0)))) es)) [
          | true ↦ λ b is.
              let later : R e.0 f.0 ≡ Less = later_found R (λ x. not (B x)) e.0 es f (first_so _ _ h) is in
              let back : R f.0 e.0 ≡ Greater = turned o e.0 f.0 Less later in
              rw back (step es f (second_so (below_all R e.0 es) _ h) is)
          | false ↦ λ b is.
              let same : e ≡ f = cc in
              let rest : filter (λ e. not (B e.0)) es ≡ es = all_left (λ x. not (B x)) e.0 es (λ y l. ap not (still_fails R B early e.0 y b l)) (first_so _ _ h) in
              let after : filter (λ g. not (not (is_lt (R e.0 g.0)))) es ≡ es = all_left (λ x. not (not (is_lt (R e.0 x)))) e.0 es (λ y l. ap (λ r. not (not (is_lt r))) l) (first_so _ _ h) in
              subst (λ z. e ∷ filter (λ e. not (B e.0)) es ≡ z ∷ cond (not (not (is_lt (R z.0 e.0)))) (e ∷ filter (λ g. not (not (is_lt (R z.0 g.0)))) es) (filter (λ g. not (not (is_lt (R z.0 g.0)))) es)) same
              (rw (tied_itself o e.0, rest, after) refl)
        ] refl is

-- after a key stands an end of the order
behind_key : {K : Type 0} (R : K → K → Ordering) → IsTotalOrder R → (a x y : K) → R x y ≡ Less → not (is_lt (R a y)) ≡ true → not (is_lt (R a x)) ≡ true
behind_key R o a x y l h = by_test (is_lt (R a x)) refl
  where
    by_test : (t : Bool) → is_lt (R a x) ≡ t → not t ≡ true
    by_test true t = let less : is_lt (R a y) ≡ true = ap is_lt (o.trans a x y (is_less _ t) l) in absurd (cc)
    by_test false t = refl

-- what follows a member in the list stands after it
behind : {K X : Type 0} (R : K → K → Ordering) (o : IsTotalOrder R) (B : K → Bool) (early : (x y : K) → R x y ≡ Less → B y ≡ true → B x ≡ true) (es init rest : List (K × X)) (e : K × X)
    → is_sorted R es ≡ true → filter (λ f. not (B f.0)) es ≡ init ++ e ∷ rest → filter (λ f. not (not (is_lt (R e.0 f.0)))) es ≡ rest
behind R o B early es [] rest e h is = tails e e _ _ (sym (step R o B early es e h (head_found (λ f. not (B f.0)) es rest e is)) ∙ is)
behind R o B early es (a ∷ init) rest e h is =
    behind R o (λ x. not (is_lt (R a.0 x))) (behind_key R o a.0) es init rest e h
    (tails a a _ _ (sym (step R o B early es a h (head_found (λ f. not (B f.0)) es (init ++ e ∷ rest) a is)) ∙ is))

pub walk_step : (cut : Cut) (m : Database) (e : Reference × List ℕ) → first_from_cut cut m ≡ Some e → entries_from cut m ≡ e ∷ filter (λ f. not (not (is_lt (ref_cmp e.0 f.0)))) (finmap.entries m)
walk_step cut m e is = step ref_cmp ref_cmp_total (stands_before cut) (stands_before-earlier cut) (finmap.entries m) e (true_of _ (finmap.entries_sorted m)) is

-- what is left behind a member of what doesn't stand before a cut
pub behind_member : (cut : Cut) (m : Database) (init rest : List (Reference × List ℕ)) (e : Reference × List ℕ) → entries_from cut m ≡ init ++ e ∷ rest
    → filter (λ f. not (not (is_lt (ref_cmp e.0 f.0)))) (finmap.entries m) ≡ rest
behind_member cut m init rest e is = behind ref_cmp ref_cmp_total (stands_before cut) (stands_before-earlier cut) (finmap.entries m) init rest e (true_of _ (finmap.entries_sorted m)) is
