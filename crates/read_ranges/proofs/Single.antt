-- A reference that is read again.
use Rattle.std.proofs.Common.{◌≡◌, Bool, true, false, List, refl, ap, ◌∙◌}
use Rattle.std.specs.Prelude.{◌||◌}
use Rattle.collation.specs.Reference.{Reference}
use Rattle.collation.specs.Order.{ref_eq}
use Rattle.collation.specs.laws.Order.{ref_eq_decides}
use Rattle.read_ranges.specs.declared.range.ReadRange.{ReadRange}
use Rattle.read_ranges.specs.declared.range.ReadRange.TheVariants.{One}
use Rattle.read_ranges.specs.Ranges.{is_in, is_in_one}
use Rattle.read_ranges.specs.laws.Single.{one_alone}

-- where k is in one of the ranges, they have it already
pub already_in : (rs : List ReadRange) (k : Reference) → is_in_one rs k ≡ true → (x : Reference) → is_in_one rs x ≡ (is_in_one rs x || is_in (One k) x)
already_in rs k there x = by_test (ref_eq x k) refl ∙ ap (λ b. is_in_one rs x || b) (one_alone k x)
  where
    both : (b : Bool) → b ≡ true → b ≡ (b || true)
    both true e = refl
    both false e = absurd (cc)

    either : (b : Bool) → b ≡ (b || false)
    either true = refl
    either false = refl

    by_test : (t : Bool) → ref_eq x k ≡ t → is_in_one rs x ≡ (is_in_one rs x || t)
    by_test true e = both (is_in_one rs x) (ap (is_in_one rs) ((ref_eq_decides x k).0 e) ∙ there)
    by_test false e = either (is_in_one rs x)
