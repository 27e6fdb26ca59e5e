-- What stands between the cuts at a reference and behind all that is under it.
use Rattle.std.proofs.Common.{◌≡◌, Bool, true, false, refl, sym, ap, ◌∙◌}
use Rattle.std.specs.Prelude.{not, cond, ◌||◌, ◌&&◌}
use Rattle.std.specs.Ordering.{is_eq, is_lt, ordering_reverse}
use Rattle.std.specs.declared.cmp.Ordering.{Ordering}
use Rattle.std.specs.declared.cmp.Ordering.TheVariants.{Less, Equal, Greater}
use Rattle.collation.specs.Reference.{Reference}
use Rattle.collation.specs.Order.{ref_cmp, ref_eq}
use Rattle.collation.specs.laws.Order.{ref_cmp_total, ref_ties}
use Rattle.collation.specs.Database.{is_under}
use Rattle.collation.specs.Levels.{is_before}
use Rattle.globals.specs.laws.Cuts.{under_between}

-- what stands from r on and before the end of all under r is under r
pub between_under : (r x : Reference) → cond (is_lt (ref_cmp x r)) false (is_before true r x) ≡ is_under r x
between_under r x = by_test (is_lt (ref_cmp x r)) (is_before true r x) ∙ sym (under_between r x)
  where
    by_test : (l b : Bool) → cond l false b ≡ (not l && b)
    by_test true b = refl
    by_test false b = refl

-- what stands behind r itself and before that end is under r and not r
pub between_below : (r x : Reference) → not (cond (not (is_lt (ref_cmp r x))) false (is_before true r x)) ≡ (ref_eq x r || not (is_under r x))
between_below r x =
    ap (λ o. not (cond (not (is_lt o)) false (is_before true r x))) (ref_cmp_total.antisymm r x) ∙ by_order (ref_cmp x r) (is_before true r x)
    ∙ sym (λ i. ref_ties x r i || not (under_between r x i))
  where
    by_order : (o : Ordering) (b : Bool) → not (cond (not (is_lt (ordering_reverse o))) false b) ≡ (is_eq o || not (not (is_lt o) && b))
    by_order Less b = refl
    by_order Equal b = refl
    by_order Greater b = refl
