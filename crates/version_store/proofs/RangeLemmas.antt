-- The newest stamp between two cuts, from what a walk over the tree passes.
use Rattle.std.proofs.Common.{◌≡◌, ℕ, [], ◌∷◌, refl, sym, ap, ◌∙◌}
use Rattle.std.specs.Prelude.{Bool, true, false, not, ◌&&◌, cond, filter, Option, Some, None}
use Rattle.std.specs.Cmp.{first_so, second_so}
use Rattle.std.specs.FinMap.{is_sorted}
use Rattle.std.specs.FinMap.Entries.{below_all}
use Rattle.collation.specs.Reference.{Reference}
use Rattle.collation.specs.Order.{ref_cmp}
use Rattle.globals.specs.declared.cut.Cut.{Cut}
use Rattle.globals.specs.Cuts.{stands_before}
use Rattle.globals.specs.laws.Nearest.{none_pass, still_fails}
use Rattle.globals.specs.laws.Cuts.{stands_before-earlier}
use Rattle.version_chain.specs.Chains.{versions_at}
use Rattle.version_store.specs.Versions.{later, newest_among, newest_between}
use Rattle.version_store.specs.Tied.{rows, versions_in, newest_below}
use Rattle.version_store.proofs.TiedLemmas.{State, Pairs, entries_in, below_rows}

pub later_none : (a : Option ℕ) → later a None ≡ a
later_none None = refl
later_none (Some a) = refl

filter_rows : (P H : Reference → Bool) (c : State) (ps : Pairs) → filter (λ e. H e.0) (rows c (filter (λ p. P p.0) ps)) ≡ filter (λ e. P e.0 && H e.0) (rows c ps)
filter_rows P H c [] = refl
filter_rows P H c (p ∷ ps) = by_test (P p.0) (filter_rows P H c ps)
  where
    by_test : (b : Bool) → filter (λ e. H e.0) (rows c (filter (λ q. P q.0) ps)) ≡ filter (λ e. P e.0 && H e.0) (rows c ps)
        → filter (λ e. H e.0) (rows c (cond b (p ∷ filter (λ q. P q.0) ps) (filter (λ q. P q.0) ps))) ≡ cond (b && H p.0) ((p.0, versions_at c p.1) ∷ filter (λ e. P e.0 && H e.0) (rows c ps)) (filter (λ e. P e.0 && H e.0) (rows c ps))
    by_test true rest = ap (λ l. cond (H p.0) ((p.0, versions_at c p.1) ∷ l) l) rest
    by_test false rest = rest

pub range_start : (low high : Cut) (c : State) (ps : Pairs) → is_sorted ref_cmp ps ≡ true → newest_below high c (filter (λ p. not (stands_before low p.0)) ps) ≡ newest_between low high (versions_in c ps)
range_start low high c ps h = ap newest_among (filter_rows (λ x. not (stands_before low x)) (stands_before high) c ps ∙ sym (ap (filter (λ e. not (stands_before low e.0) && stands_before high e.0)) (entries_in c ps h)))

pub range_past : (high : Cut) (c : State) (n t : Option ℕ) (qs ps : Pairs) (p : Reference × ℕ) → qs ≡ p ∷ ps → is_sorted ref_cmp qs ≡ true → stands_before high p.0 ≡ false → later n (newest_below high c qs) ≡ t → n ≡ t
range_past high c n t qs ps p are h out is =
    let h : is_sorted ref_cmp (p ∷ ps) ≡ true = ap (is_sorted ref_cmp) (sym are) ∙ h in
    let none : filter (λ e. stands_before high e.0) (rows c ps) ≡ [] =
    none_pass ref_cmp (stands_before high) p.0 (rows c ps) (λ y less. still_fails ref_cmp (stands_before high) (stands_before-earlier high) p.0 y out less) (below_rows c p.0 ps (first_so (below_all ref_cmp p.0 ps) _ h)) in
    sym (ap (λ ps. later n (newest_below high c ps)) are
    ∙ ap (λ b. later n (newest_among (cond b ((p.0, versions_at c p.1) ∷ filter (λ e. stands_before high e.0) (rows c ps)) (filter (λ e. stands_before high e.0) (rows c ps))))) out
    ∙ ap (λ l. later n (newest_among l)) none ∙ later_none n) ∙ is

pub sorted_rest : (qs ps : Pairs) (p : Reference × ℕ) → qs ≡ p ∷ ps → is_sorted ref_cmp qs ≡ true → is_sorted ref_cmp ps ≡ true
sorted_rest qs ps p are h = second_so (below_all ref_cmp p.0 ps) _ (ap (is_sorted ref_cmp) (sym are) ∙ h)
