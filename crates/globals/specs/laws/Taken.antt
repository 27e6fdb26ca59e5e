-- What a kill takes lies between two cuts, at and under its reference.
use Rattle.std.proofs.Common.{◌≡◌, ℕ, Bool, true, false, List, [], ◌∷◌, refl, sym, ap, ◌∙◌}
use Rattle.std.specs.Prelude.{not, ◌&&◌, ◌||◌, filter, Some}
use Rattle.std.proofs.lemmas.Bool.{and_from}
use Rattle.std.specs.Cmp.{both_ways, tied_itself, first_so, second_so}
use Rattle.std.specs.declared.cmp.Ordering.{Ordering}
use Rattle.std.specs.declared.cmp.Ordering.TheVariants.{Less, Equal, Greater}
use Rattle.std.specs.Ordering.{is_lt, is_eq}
use Rattle.std.specs.FinMap as finmap
use Rattle.collation.specs.Reference.{Reference}
use Rattle.collation.specs.Order.{ref_cmp, ref_eq}
use Rattle.collation.specs.laws.Order.{ref_cmp_total, ref_eq_decides, ref_ties, is_less, turned}
use Rattle.collation.specs.Database.{Database, is_under}
use Rattle.collation.specs.Levels.{is_before, is_below}
use Rattle.command.specs.Data.{takes}
use Rattle.command.specs.declared.access.Extent.{Extent}
use Rattle.command.specs.declared.access.Extent.TheVariants.{All, Value, Below}
use Rattle.globals.specs.Cuts.{entries_from, stands_before, taken_start, taken_end, taken_of, up_to}
use Rattle.globals.specs.declared.cut.Cut.{Cut}
use Rattle.globals.specs.laws.Cuts.{under_between}
use Rattle.globals.specs.laws.Ends.{both_tests, entries_to}
use Rattle.globals.specs.laws.Seeks.{below_is_after, below_is_before}
use Rattle.globals.specs.laws.Telling.{below_so}
use Rattle.globals.specs.laws.Under.{under_itself}

-- one reference stands between the cuts before it and after it
alone_between : (r x : Reference) → ref_eq x r ≡ (not (is_lt (ref_cmp x r)) && not (is_lt (ref_cmp r x)))
alone_between r x = ref_ties x r ∙ by_order (ref_cmp x r) refl
  where
    by_order : (o : Ordering) → ref_cmp x r ≡ o → is_eq o ≡ (not (is_lt o) && not (is_lt (ref_cmp r x)))
    by_order Less e = refl
    by_order Equal e = sym (ap (λ q. not (is_lt q)) (turned ref_cmp_total x r Equal e))
    by_order Greater e = sym (ap (λ q. not (is_lt q)) (turned ref_cmp_total x r Greater e))

-- what stands after r, and before the end of all under r, is below r
between_below : (r x : Reference) → is_lt (ref_cmp r x) ≡ true → is_before true r x ≡ true → is_below r x ≡ true
between_below r x a b =
    let greater : is_lt (ref_cmp x r) ≡ false = ap is_lt (turned ref_cmp_total r x Less (is_less _ a)) in
    let under : is_under r x ≡ true = under_between r x ∙ and_from _ _ (ap not greater) b in
    below_so r x ∙ and_from _ _ under (apart (ref_eq r x) refl)
  where
    apart : (e : Bool) → ref_eq r x ≡ e → not e ≡ true
    apart true e =
        let same : r ≡ x = (ref_eq_decides r x).0 e in
        let tie : Equal ≡ Less = sym (tied_itself ref_cmp_total r) ∙ ap (ref_cmp r) same ∙ is_less _ a in
        absurd (cc)
    apart false e = refl

below_between : (r x : Reference) → is_below r x ≡ (not (not (is_lt (ref_cmp r x))) && is_before true r x)
below_between r x = by_after (is_lt (ref_cmp r x)) refl
  where
    by_after : (a : Bool) → is_lt (ref_cmp r x) ≡ a → is_below r x ≡ (not (not a) && is_before true r x)
    by_after true is = both_ways _ _ (below_is_before r x) (between_below r x is)
    by_after false is = by_below (is_below r x) refl
      where
        by_below : (b : Bool) → is_below r x ≡ b → b ≡ false
        by_below true below = let e : true ≡ false = sym (below_is_after r x below) ∙ is in absurd (cc)
        by_below false below = refl

-- what a kill takes stands from its beginning on and before its end
pub takes_between : (extent : Extent) (r x : Reference) → takes extent r x ≡ (not (taken_start extent r x) && taken_end extent r x)
takes_between All r x = under_between r x
takes_between Value r x = alone_between r x
takes_between Below r x = below_between r x

-- it is at or under the reference
pub takes_under : (extent : Extent) (r x : Reference) → takes extent r x ≡ true → is_under r x ≡ true
takes_under All r x h = h
takes_under Value r x h = ap (is_under r) ((ref_eq_decides x r).0 h) ∙ under_itself r
takes_under Below r x h = first_so (is_under r x) _ (sym (below_so r x) ∙ h)

-- the members between two cuts at which what a kill takes begins and ends
pub taken_between : (extent : Extent) (root : Reference) (low high : Cut) (m : Database) → ((x : Reference) → stands_before low x ≡ taken_start extent root x) → ((x : Reference) → stands_before high x ≡ taken_end extent root x)
    → entries_from low (up_to (Some high) m) ≡ taken_of extent root m
taken_between extent root low high m begins ends =
    ap (filter (λ e. not (stands_before low e.0))) (entries_to (Some high) m)
    ∙ both_tests (stands_before high) (λ x. not (stands_before low x)) (finmap.entries m)
    ∙ (λ i. filter (λ (e : Reference × List ℕ). by_cuts e.0 i) (finmap.entries m))
  where
    turned_and : (a b : Bool) → (a && b) ≡ (b && a)
    turned_and true true = refl
    turned_and true false = refl
    turned_and false true = refl
    turned_and false false = refl

    by_cuts : (x : Reference) → (stands_before high x && not (stands_before low x)) ≡ takes extent root x
    by_cuts x = (λ i. ends x i && not (begins x i)) ∙ turned_and (taken_end extent root x) (not (taken_start extent root x)) ∙ sym (takes_between extent root x)
