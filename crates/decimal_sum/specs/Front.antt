-- The number that a text begins with: signs, digits, a point and digits, as many as there are; 0 where there are no digits.
-- Our own profile of M's numeric interpretation: an exponent isn't read. Read after_signs to front_fraction, then number_at.
use Rattle.std.specs.Prelude.{ℕ, ◌+◌, Bool, false, not, ◌&&◌, ◌||◌, if◌then◌else◌, ◌==◌, List, [], ◌∷◌, ◌++◌, length, ℤ, pos, neg_ℤ}
use Rattle.canonic_number.specs.Number.{worth}
pub use Rattle.canonic_number.specs.Parts.{is_no_digit, front_digits, past_digits}

-- what follows the signs in front, '+' (43) and '-' (45)
abbrev pub after_signs : List ℕ → List ℕ
after_signs [] = []
after_signs (b ∷ bs) = if b == 43 || b == 45 then after_signs bs else b ∷ bs

-- the number of '-' among the signs in front is odd
abbrev pub is_negated : List ℕ → Bool
is_negated [] = false
is_negated (b ∷ bs) = if b == 45 then not (is_negated bs) else b == 43 && is_negated bs

-- the digits after a point in front
abbrev pub point_digits : List ℕ → List ℕ
point_digits [] = []
point_digits (b ∷ bs) = if b == 46 then front_digits bs else []

-- the number's digits before its point, and after it
abbrev pub front_whole : List ℕ → List ℕ
front_whole s = front_digits (after_signs s)

abbrev pub front_fraction : List ℕ → List ℕ
front_fraction s = point_digits (past_digits (after_signs s))

-- a whole number with a sign or without
abbrev pub with_sign : Bool → ℕ → ℤ
with_sign negative n = if negative then neg_ℤ (pos n) else pos n

-- 10^scale times the number, for a scale not below the length of its fraction
abbrev pub number_at : ℕ → List ℕ → ℤ
number_at scale s = with_sign (is_negated s) (worth (length (front_whole s) + scale) (front_whole s ++ front_fraction s))
