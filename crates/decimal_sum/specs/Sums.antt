-- The canonic text of the number that a text begins with, and of the sum of two such numbers.
-- Read IsNumber and IsSum, which say by value what the texts are; then number_of and sum_of, the one text each. Crates above
-- know these two by the laws alone (`specs/Statements.antt`).
use Rattle.std.specs.Prelude.{ℕ, ◌+◌, ◌≤◌, ◌≡◌, max, Bool, true, false, List, ◌++◌, length, map, take, drop, replicate, ℤ, pos, negsuc, nat_abs, ◌+ℤ◌}
use Rattle.std.specs.Int.Digits.{digits_of}
use Rattle.canonic_number.specs.Number.{is_canonic, value_at, magnitude, fraction_part}
use Rattle.canonic_number.specs.Place.{after_zeros, before_zeros}
use Rattle.canonic_number.specs.Literal.{shortest}
use Rattle.decimal_sum.specs.Front.{number_at, front_fraction}

-- the canonic text of a number that is told by its value at each scale from `from` on; its fraction has at most so many digits
pub record IsTextOf (text : List ℕ) (from : ℕ) (number : ℕ → ℤ) : Type 0 where
  pub canonic : is_canonic text ≡ true
  pub value : (scale : ℕ) → from ≤ scale → value_at scale text ≡ number scale
  pub short : length (fraction_part (magnitude text)) ≤ from

-- the canonic text of the number that a text begins with
abbrev pub IsNumber : List ℕ → List ℕ → Type 0
IsNumber s text = IsTextOf text (length (front_fraction s)) (λ scale. number_at scale s)

-- the length of the longer of the two fractions
abbrev pub sum_scale : List ℕ → List ℕ → ℕ
sum_scale a b = max (length (front_fraction a)) (length (front_fraction b))

-- the canonic text of the sum of the numbers that two texts begin with
abbrev pub IsSum : List ℕ → List ℕ → List ℕ → Type 0
IsSum a b text = IsTextOf text (sum_scale a b) (λ scale. number_at scale a +ℤ number_at scale b)

-- the canonic text of digits of which so many stand before the point
abbrev pub parted : Bool → ℕ → List ℕ → List ℕ
parted negative whole ds = shortest negative (after_zeros (take whole ds)) (before_zeros (drop whole ds))

-- the decimal digits of a whole number, none for 0
abbrev pub digits : ℕ → List ℕ
digits n = map (λ d. 48 + d) (digits_of 10 n)

abbrev pub is_below_0 : ℤ → Bool
is_below_0 (pos n) = false
is_below_0 (negsuc n) = true

-- the canonic text of a number that is `value` times 10^-scale: the last digits, as many as the scale, are its fraction
abbrev pub text_at : ℕ → ℤ → List ℕ
text_at scale value = parted (is_below_0 value) (length (digits (nat_abs value))) (replicate scale 48 ++ digits (nat_abs value))

-- the number that the text begins with
unfoldable pub number_of : List ℕ → List ℕ
number_of s = text_at (length (front_fraction s)) (number_at (length (front_fraction s)) s)

-- the sum of the numbers that the texts begin with
unfoldable pub sum_of : List ℕ → List ℕ → List ℕ
sum_of a b = text_at (sum_scale a b) (number_at (sum_scale a b) a +ℤ number_at (sum_scale a b) b)
