-- Zeros at the end of digits.
use Rattle.std.proofs.Common.{◌≡◌, ℕ, ◌-◌, ◌<◌, Bool, List, [], ◌∷◌, length, not, get_or, true, false, refl, ap, sym, ◌∙◌, arith, suc, take}
use Rattle.std.proofs.lemmas.Bool.Decides.{nat_tests}
use Rattle.std.specs.Prelude.{◌&&◌, ◌==◌}
use Rattle.std.specs.Cmp.{first_so, second_so}
use Rattle.canonic_number.specs.Number.{ends_above_0}
use Rattle.canonic_number.specs.Place.{before, before_zeros, ends_with_0}
use Rattle.canonic_number.specs.laws.Place.{at_zero, before_zeros-same}

-- the last digit, by its index
pub ends_above_0_last : (ds : List ℕ) → 0 < length ds → ends_above_0 ds ≡ not (get_or ds (length ds - 1) 0 == 48)
ends_above_0_last [] h = absurd (omega arith)
ends_above_0_last (d ∷ []) h = refl
ends_above_0_last (d ∷ e ∷ ds) h =
    let index : suc (length (e ∷ ds) - 1) ≡ length (d ∷ e ∷ ds) - 1 = omega arith in
    ends_above_0_last (e ∷ ds) (omega arith) ∙ ap (λ i. not (get_or (d ∷ e ∷ ds) i 0 == 48)) index

-- a zero at the end doesn't count
pub before_zeros-shorter : (ds : List ℕ) → ends_with_0 ds ≡ true → before_zeros (take (length ds - 1) ds) ≡ before_zeros ds
before_zeros-shorter ds e = shorter ds (first_so _ _ e) (second_so (not (length ds == 0)) _ e)
  where
    last : (d c : ℕ) (ds : List ℕ) → before_zeros (take (length (c ∷ ds) - 1) (c ∷ ds)) ≡ before_zeros (c ∷ ds) → before_zeros (take (length (d ∷ c ∷ ds) - 1) (d ∷ c ∷ ds)) ≡ before_zeros (d ∷ c ∷ ds)
    last d c ds h =
        let n : length (d ∷ c ∷ ds) - 1 ≡ suc (length (c ∷ ds) - 1) = omega arith in
        ap (λ k. before_zeros (take k (d ∷ c ∷ ds))) n ∙ ap (before d) h

    shorter : (ds : List ℕ) → not (length ds == 0) ≡ true → not (ends_above_0 ds) ≡ true → before_zeros (take (length ds - 1) ds) ≡ before_zeros ds
    shorter [] h e = refl
    shorter (d ∷ []) h e = at_zero d (λ t _. rw t refl) (λ t. let g : not (not false) ≡ true = ap (λ b. not (not b)) (sym t) ∙ e in cc)
    shorter (d ∷ c ∷ ds) h e = last d c ds (shorter (c ∷ ds) (grind (arith, nat_tests)) e)

-- and where there is none, all do
pub before_zeros-all : (ds : List ℕ) → ends_with_0 ds ≡ false → before_zeros ds ≡ ds
before_zeros-all [] e = refl
before_zeros-all (d ∷ ds) e = before_zeros-same (d ∷ ds) (above (ends_above_0 (d ∷ ds)) (not (length (d ∷ ds) == 0)) (grind (arith, nat_tests)) e)
  where
    above : (a b : Bool) → b ≡ true → (b && not a) ≡ false → a ≡ true
    above true b h e = refl
    above false true h e = cc
    above false false h e = cc
