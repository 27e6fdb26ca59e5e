-- Texts of digits alone.
use Rattle.std.proofs.Common.{◌≡◌, ℕ, true, cond, List, [], length, not, is_some, ap, subst, ◌∙◌, append-nil}
use Rattle.std.specs.Prelude.{◌||◌, ◌&&◌, ◌==◌}
use Rattle.std.specs.Char.{is_ascii_digit}
use Rattle.std.specs.List.{list_all, position}
use Rattle.canonic_number.specs.Number.{begins_with_0, is_zero, is_canonic, is_magnitude, fraction_part, is_point, is_whole, is_fraction}
use Rattle.canonic_number.specs.laws.Grammar.{IsSplit, split_written, IsUnsigned, unsigned_written}

-- they have neither sign nor point
pub record AreWhole (ds : List ℕ) : Type 0 where
  pub plain : IsUnsigned ds
  pub parts : IsSplit ds ds []

pub digits_whole : (ds : List ℕ) → list_all is_ascii_digit ds ≡ true → AreWhole ds
digits_whole ds e = record {
  plain = subst IsUnsigned (append-nil ds) (unsigned_written ds [] e);
  parts = subst (λ m. IsSplit m ds []) (append-nil ds) (split_written ds [] e);
}

pub canonic_whole : (ds : List ℕ) → list_all is_ascii_digit ds ≡ true → is_canonic ds ≡ (is_zero ds || (not (length ds == 0) && (not (begins_with_0 ds) && true)))
canonic_whole ds e =
    let is : AreWhole ds = digits_whole ds e in
    ap (λ m. is_zero ds || is_magnitude m) is.plain.magnitude
    ∙ ap (λ w. is_zero ds || (not (length ds == 0) && (is_whole w && cond (is_some (position is_point ds)) (is_fraction (fraction_part ds)) true))) is.parts.whole
    ∙ ap (λ t. is_zero ds || (not (length ds == 0) && (is_whole ds && cond t (is_fraction (fraction_part ds)) true))) is.parts.point
    ∙ ap (λ t. is_zero ds || (not (length ds == 0) && ((t && not (begins_with_0 ds)) && true))) e
