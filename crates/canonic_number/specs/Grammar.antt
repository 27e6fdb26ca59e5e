-- The grammar of canonic numbers and of numeric literals: how each such text is spelled.
-- Read IsCanonic, then IsNumericLiteral.
use Rattle.std.specs.Prelude.{ℕ, ◌≤◌, List, [], ◌∷◌, ◌++◌}

-- a digit is a byte from 48 to 57
pub record IsDigit (d : ℕ) : Type 0 where
  pub low : 48 ≤ d
  pub high : d ≤ 57

-- a digit from 1 to 9
pub record IsDigitAbove0 (d : ℕ) : Type 0 where
  pub low : 49 ≤ d
  pub high : d ≤ 57

-- digits, or nothing
pub data IsDigits : List ℕ → Type 0 where
  nothing : IsDigits []
  digit : {d : ℕ} {ds : List ℕ} → IsDigit d → IsDigits ds → IsDigits (d ∷ ds)

-- 1 to 9, then digits
pub data IsWholePart : List ℕ → Type 0 where
  whole : {d : ℕ} {ds : List ℕ} → IsDigitAbove0 d → IsDigits ds → IsWholePart (d ∷ ds)

-- digits, the last of them 1 to 9
pub data IsFraction : List ℕ → Type 0 where
  last : {d : ℕ} → IsDigitAbove0 d → IsFraction (d ∷ [])
  digit_before : {d : ℕ} {ds : List ℕ} → IsDigit d → IsFraction ds → IsFraction (d ∷ ds)

-- a whole part, a point (46) and a fraction, or both
pub data IsMagnitude : List ℕ → Type 0 where
  only_whole : {w : List ℕ} → IsWholePart w → IsMagnitude w
  only_fraction : {f : List ℕ} → IsFraction f → IsMagnitude (46 ∷ f)
  whole_and_fraction : {w f : List ℕ} → IsWholePart w → IsFraction f → IsMagnitude (w ++ 46 ∷ f)

-- '0' (48), or such a number, with a '-' (45) before it or without
pub data IsCanonic : List ℕ → Type 0 where
  zero_text : IsCanonic (48 ∷ [])
  above_zero : {m : List ℕ} → IsMagnitude m → IsCanonic m
  below_zero : {m : List ℕ} → IsMagnitude m → IsCanonic (45 ∷ m)

-- one digit or more
pub data IsSomeDigits : List ℕ → Type 0 where
  first_digit : {d : ℕ} {ds : List ℕ} → IsDigit d → IsDigits ds → IsSomeDigits (d ∷ ds)

-- digits, or digits '.' digits, or '.' digits
pub data IsUnsignedLiteral : List ℕ → Type 0 where
  only_digits : {w : List ℕ} → IsSomeDigits w → IsUnsignedLiteral w
  point_first : {f : List ℕ} → IsSomeDigits f → IsUnsignedLiteral (46 ∷ f)
  point_between : {w f : List ℕ} → IsSomeDigits w → IsSomeDigits f → IsUnsignedLiteral (w ++ 46 ∷ f)

-- with a '-' before them or without
pub data IsNumericLiteral : List ℕ → Type 0 where
  unsigned : {m : List ℕ} → IsUnsignedLiteral m → IsNumericLiteral m
  with_minus : {m : List ℕ} → IsUnsignedLiteral m → IsNumericLiteral (45 ∷ m)
