-- The three classes of canonic numbers (zero, below it, above it), their order by value, and that the value tells the text.
use Rattle.std.proofs.Common.{◌≡◌, ℕ, ◌+◌, ◌-◌, ◌<◌, ◌≤◌, List, [], ◌∷◌, length, true, false, refl, ap, sym, ◌∙◌, arith, zero, suc}
use Rattle.std.proofs.lemmas.Bool.Decides.{nat_tests}
use Rattle.std.specs.Prelude.{ℤ, pos, neg_ℤ, ◌<ℤ◌, if◌then◌else◌}
use Rattle.std.specs.declared.cmp.Ordering.{Ordering}
use Rattle.std.specs.declared.cmp.Ordering.TheVariants.{Less, Equal, Greater}
use Rattle.std.specs.Ordering.{nat_cmp, int_cmp, ordering_then}
use Rattle.std.specs.Cmp.{tied_itself, nat_cmp_is, int_cmp_total}
use Rattle.std.proofs.lemmas.Cmp.{by_ranked, int_ranked}
use Rattle.std.specs.Cmp.Lexicographic.{slice_cmp}
use Rattle.std.specs.FinMap.{slice_cmp-IsAntisymmetric, nat_cmp-IsAntisymmetric}
use Rattle.canonic_number.specs.Number.{is_canonic, is_zero, is_negative, worth, value_at, magnitude_at, magnitude, fraction_part}
use Rattle.canonic_number.specs.Place.{point_at, digits_of}
use Rattle.canonic_number.specs.laws.Digits.{worth-ge, pow_above_0, head_digit, below_positive, above_negative}
use Rattle.canonic_number.specs.laws.Place.{ArePlacedDigits, placed_cmp}
use Rattle.canonic_number.specs.laws.Canonic.{IsPlaced, is_placed, is_zero_text, same_text, fraction_short}
use Rattle.canonic_number.specs.Statements.{EqualValuesAreEqualTexts}

-- a comparison of two integers is that of their magnitudes
less_pos : (a b : ℕ) → pos a <ℤ pos b → a < b
less_pos a b h = grind (arith, nat_tests)

less_neg : (a b : ℕ) → neg_ℤ (pos (suc a)) <ℤ neg_ℤ (pos (suc b)) → b < a
less_neg a b h = grind (arith, nat_tests)

same_pos : (a b : ℕ) → pos a ≡ pos b → a ≡ b
same_pos a b e = cc

same_neg : (a b : ℕ) → neg_ℤ (pos (suc a)) ≡ neg_ℤ (pos (suc b)) → a ≡ b
same_neg a b e = cc

positive_cmp : (a b : ℕ) → int_cmp (pos a) (pos b) ≡ nat_cmp a b
positive_cmp a b =
    by_ranked _ _ _ (int_cmp (pos a) (pos b)) (int_ranked (pos a) (pos b) _ refl)
    (λ r l. r ∙ nat_cmp_is a b Less (less_pos a b l)) (λ r e. r ∙ nat_cmp_is a b Equal (same_pos a b e)) (λ r l. r ∙ nat_cmp_is a b Greater (less_pos b a l))

negative_cmp : (a b : ℕ) → 0 < a → 0 < b → int_cmp (neg_ℤ (pos a)) (neg_ℤ (pos b)) ≡ nat_cmp b a
negative_cmp zero b h k = absurd (omega arith)
negative_cmp (suc a) zero h k = absurd (omega arith)
negative_cmp (suc a) (suc b) h k =
    by_ranked _ _ _ (int_cmp (neg_ℤ (pos (suc a))) (neg_ℤ (pos (suc b)))) (int_ranked (neg_ℤ (pos (suc a))) (neg_ℤ (pos (suc b))) _ refl)
    (λ r l. let m : b < a = less_neg a b l in r ∙ nat_cmp_is (suc b) (suc a) Less (omega arith)) (λ r e. let m : a ≡ b = same_neg a b e in r ∙ nat_cmp_is (suc b) (suc a) Equal (omega arith)) (λ r l. let m : a < b = less_neg b a l in r ∙ nat_cmp_is (suc b) (suc a) Greater (omega arith))

zero_before : (n : ℕ) → 0 < n → int_cmp (pos 0) (pos n) ≡ Less
zero_before n h = positive_cmp 0 n ∙ sym (nat_cmp_is 0 n Less h)

zero_after : (n : ℕ) → 0 < n → int_cmp (pos n) (pos 0) ≡ Greater
zero_after n h = positive_cmp n 0 ∙ sym (nat_cmp_is n 0 Greater h)

-- digits, the first above 0, are worth something
pub worth_some : (n : ℕ) (ds : List ℕ) → ArePlacedDigits n ds → 0 < worth n ds
worth_some n [] a = absurd (omega (arith, a.some))
worth_some n (d ∷ ds) a =
    let is = head_digit d ds a.digits in
    let above : 48 < d = grind (arith, nat_tests, is.low, a.begins) in
    omega (arith, worth-ge n d ds above, pow_above_0 (n - 1))

-- a canonic number is zero, or below it, or above it
pub data IsOfClass (k : ℕ) (s : List ℕ) : Type 0 where
  Zero : s ≡ 48 ∷ [] → IsOfClass k s
  Below : IsPlaced k s → is_zero s ≡ false → is_negative s ≡ true → IsOfClass k s
  Above : IsPlaced k s → is_zero s ≡ false → is_negative s ≡ false → IsOfClass k s

-- k is any scale not below the length of the fraction
pub class_at : (k : ℕ) (s : List ℕ) → is_canonic s ≡ true → length (fraction_part (magnitude s)) ≤ k → IsOfClass k s
class_at k s is within =
    elim (is_zero s) as (λ t. is_zero s ≡ t → IsOfClass k s) [
      | true ↦ λ e. Zero (is_zero_text s e)
      | false ↦ λ e. elim (is_negative s) as (λ t. is_negative s ≡ t → IsOfClass k s) [
        | true ↦ λ f. Below (is_placed k s is e within) e f
        | false ↦ λ f. Above (is_placed k s is e within) e f
      ] refl
    ] refl

-- the same of a text of at most k + 1 bytes
pub class_of_text : (k : ℕ) (s : List ℕ) → is_canonic s ≡ true → length s ≤ k + 1 → IsOfClass k s
class_of_text k s is short =
    elim (is_zero s) as (λ t. is_zero s ≡ t → IsOfClass k s) [
      | true ↦ λ e. Zero (is_zero_text s e)
      | false ↦ λ e. class_at k s is (fraction_short k s is e short)
    ] refl

pub zero_value : (k : ℕ) (s : List ℕ) → s ≡ 48 ∷ [] → value_at k s ≡ pos 0
zero_value k s e = let none : magnitude_at k (48 ∷ []) ≡ 0 = omega arith in ap (value_at k) e ∙ ap pos none

pub below_value : (k : ℕ) (s : List ℕ) → IsPlaced k s → is_negative s ≡ true → value_at k s ≡ neg_ℤ (pos (worth (point_at k s) (digits_of s)))
below_value k s is n = is.value ∙ ap (λ t. if t then neg_ℤ (pos (worth (point_at k s) (digits_of s))) else pos (worth (point_at k s) (digits_of s))) n

pub above_value : (k : ℕ) (s : List ℕ) → IsPlaced k s → is_negative s ≡ false → value_at k s ≡ pos (worth (point_at k s) (digits_of s))
above_value k s is n = is.value ∙ ap (λ t. if t then neg_ℤ (pos (worth (point_at k s) (digits_of s))) else pos (worth (point_at k s) (digits_of s))) n

values_cmp : (k : ℕ) (s t : List ℕ) (a b : ℤ) (o : Ordering) → value_at k s ≡ a → value_at k t ≡ b → int_cmp a b ≡ o → int_cmp (value_at k s) (value_at k t) ≡ o
values_cmp k s t a b o e f h = ap (λ v. int_cmp v (value_at k t)) e ∙ ap (int_cmp a) f ∙ h

-- two numbers of different classes
pub zero_zero : (k : ℕ) (s t : List ℕ) → s ≡ 48 ∷ [] → t ≡ 48 ∷ [] → int_cmp (value_at k s) (value_at k t) ≡ Equal
zero_zero k s t e f = values_cmp k s t (pos 0) (pos 0) Equal (zero_value k s e) (zero_value k t f) refl

pub zero_below : (k : ℕ) (s t : List ℕ) → s ≡ 48 ∷ [] → IsPlaced k t → is_negative t ≡ true → int_cmp (value_at k s) (value_at k t) ≡ Greater
zero_below k s t e b n = values_cmp k s t (pos 0) (neg_ℤ (pos (worth (point_at k t) (digits_of t)))) Greater (zero_value k s e) (below_value k t b n) (sym (above_negative 0 _ (worth_some (point_at k t) (digits_of t) b.form)))

pub zero_above : (k : ℕ) (s t : List ℕ) → s ≡ 48 ∷ [] → IsPlaced k t → is_negative t ≡ false → int_cmp (value_at k s) (value_at k t) ≡ Less
zero_above k s t e b n = values_cmp k s t (pos 0) (pos (worth (point_at k t) (digits_of t))) Less (zero_value k s e) (above_value k t b n) (zero_before _ (worth_some (point_at k t) (digits_of t) b.form))

pub below_zero : (k : ℕ) (s t : List ℕ) → IsPlaced k s → is_negative s ≡ true → t ≡ 48 ∷ [] → int_cmp (value_at k s) (value_at k t) ≡ Less
below_zero k s t a m f = values_cmp k s t (neg_ℤ (pos (worth (point_at k s) (digits_of s)))) (pos 0) Less (below_value k s a m) (zero_value k t f) (sym (below_positive _ 0 (worth_some (point_at k s) (digits_of s) a.form)))

pub above_zero : (k : ℕ) (s t : List ℕ) → IsPlaced k s → is_negative s ≡ false → t ≡ 48 ∷ [] → int_cmp (value_at k s) (value_at k t) ≡ Greater
above_zero k s t a m f = values_cmp k s t (pos (worth (point_at k s) (digits_of s))) (pos 0) Greater (above_value k s a m) (zero_value k t f) (zero_after _ (worth_some (point_at k s) (digits_of s) a.form))

pub below_above : (k : ℕ) (s t : List ℕ) → IsPlaced k s → is_negative s ≡ true → IsPlaced k t → is_negative t ≡ false → int_cmp (value_at k s) (value_at k t) ≡ Less
below_above k s t a m b n = values_cmp k s t (neg_ℤ (pos (worth (point_at k s) (digits_of s)))) (pos (worth (point_at k t) (digits_of t))) Less (below_value k s a m) (above_value k t b n) (sym (below_positive _ _ (worth_some (point_at k s) (digits_of s) a.form)))

pub above_below : (k : ℕ) (s t : List ℕ) → IsPlaced k s → is_negative s ≡ false → IsPlaced k t → is_negative t ≡ true → int_cmp (value_at k s) (value_at k t) ≡ Greater
above_below k s t a m b n = values_cmp k s t (pos (worth (point_at k s) (digits_of s))) (neg_ℤ (pos (worth (point_at k t) (digits_of t)))) Greater (above_value k s a m) (below_value k t b n) (sym (above_negative _ _ (worth_some (point_at k t) (digits_of t) b.form)))

-- two numbers above zero, by place and digits
pub above_cmp : (k : ℕ) (s t : List ℕ) → IsPlaced k s → IsPlaced k t → is_negative s ≡ false → is_negative t ≡ false →
    int_cmp (value_at k s) (value_at k t) ≡ ordering_then (nat_cmp (point_at k s) (point_at k t)) (slice_cmp nat_cmp (digits_of s) (digits_of t))
above_cmp k s t a b m n =
    values_cmp k s t (pos (worth (point_at k s) (digits_of s))) (pos (worth (point_at k t) (digits_of t))) _ (above_value k s a m) (above_value k t b n)
    (positive_cmp (worth (point_at k s) (digits_of s)) (worth (point_at k t) (digits_of t)) ∙ sym (placed_cmp (point_at k s) (point_at k t) (digits_of s) (digits_of t) a.form b.form))

-- two below zero, the other way round
pub below_cmp : (k : ℕ) (s t : List ℕ) → IsPlaced k s → IsPlaced k t → is_negative s ≡ true → is_negative t ≡ true →
    int_cmp (value_at k s) (value_at k t) ≡ ordering_then (nat_cmp (point_at k t) (point_at k s)) (slice_cmp nat_cmp (digits_of t) (digits_of s))
below_cmp k s t a b m n =
    values_cmp k s t (neg_ℤ (pos (worth (point_at k s) (digits_of s)))) (neg_ℤ (pos (worth (point_at k t) (digits_of t)))) _ (below_value k s a m) (below_value k t b n)
    (negative_cmp (worth (point_at k s) (digits_of s)) (worth (point_at k t) (digits_of t)) (worth_some (point_at k s) (digits_of s) a.form) (worth_some (point_at k t) (digits_of t) b.form) ∙ sym (placed_cmp (point_at k t) (point_at k s) (digits_of t) (digits_of s) b.form a.form))

-- where a chain of two orders ties, both do
pub record AreTied (a b : Ordering) : Type 0 where
  pub first : a ≡ Equal
  pub second : b ≡ Equal

pub both_tied : (a b : Ordering) → ordering_then a b ≡ Equal → AreTied a b
both_tied Less b e = cc
both_tied Equal b e = record { first = refl; second = e }
both_tied Greater b e = cc

-- numbers of one sign that tie by place and digits are one text
pub tied_text : (k : ℕ) (s t : List ℕ) → IsPlaced k s → IsPlaced k t → is_negative s ≡ is_negative t → ordering_then (nat_cmp (point_at k s) (point_at k t)) (slice_cmp nat_cmp (digits_of s) (digits_of t)) ≡ Equal → s ≡ t
tied_text k s t a b sign e =
    let ties : AreTied (nat_cmp (point_at k s) (point_at k t)) (slice_cmp nat_cmp (digits_of s) (digits_of t)) = both_tied _ _ e in
    same_text k s t a b sign (nat_cmp-IsAntisymmetric (point_at k s) (point_at k t) ties.first) (slice_cmp-IsAntisymmetric nat_cmp-IsAntisymmetric (digits_of s) (digits_of t) ties.second)

-- numbers that tie by value are one text
tied_values : (k : ℕ) (s t : List ℕ) → IsOfClass k s → IsOfClass k t → int_cmp (value_at k s) (value_at k t) ≡ Equal → s ≡ t
tied_values k s t (Zero e) (Zero f) h = e ∙ sym f
tied_values k s t (Zero e) (Below b z n) h = let o = zero_below k s t e b n in cc
tied_values k s t (Zero e) (Above b z n) h = let o = zero_above k s t e b n in cc
tied_values k s t (Below a w m) (Zero f) h = let o = below_zero k s t a m f in cc
tied_values k s t (Above a w m) (Zero f) h = let o = above_zero k s t a m f in cc
tied_values k s t (Below a w m) (Above b z n) h = let o = below_above k s t a m b n in cc
tied_values k s t (Above a w m) (Below b z n) h = let o = above_below k s t a m b n in cc
tied_values k s t (Above a w m) (Above b z n) h = tied_text k s t a b (m ∙ sym n) (sym (above_cmp k s t a b m n) ∙ h)
tied_values k s t (Below a w m) (Below b z n) h = sym (tied_text k t s b a (n ∙ sym m) (sym (below_cmp k s t a b m n) ∙ h))

-- the value tells the text, at any scale not below the lengths of the fractions
pub equal_values : (k : ℕ) (s t : List ℕ) → is_canonic s ≡ true → is_canonic t ≡ true → length (fraction_part (magnitude s)) ≤ k → length (fraction_part (magnitude t)) ≤ k → value_at k s ≡ value_at k t → s ≡ t
equal_values k s t is it within within' e =
    tied_values k s t (class_at k s is within) (class_at k t it within') (ap (int_cmp (value_at k s)) (sym e) ∙ tied_itself int_cmp_total (value_at k s))

pub equal_texts : EqualValuesAreEqualTexts
equal_texts k s t is it short short' e =
    tied_values k s t (class_of_text k s is short) (class_of_text k t it short') (ap (int_cmp (value_at k s)) (sym e) ∙ tied_itself int_cmp_total (value_at k s))
