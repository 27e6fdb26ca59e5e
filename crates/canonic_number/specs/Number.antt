-- Canonic numbers: numbers in their shortest decimal form, and what they are worth.
use Rattle.std.specs.Prelude.{ℕ, ◌+◌, ◌-◌, ◌*◌, ◌^◌, Bool, true, false, not, ◌&&◌, ◌||◌, if◌then◌else◌, ◌==◌, List, [], ◌∷◌, ◌++◌, length, ℤ, pos, neg_ℤ, is_some}
use Rattle.std.specs.List.{list_all, position, before_first, after_first}
use Rattle.std.specs.Char.{is_ascii_digit}

-- the byte '-'
abbrev pub is_negative : List ℕ → Bool
is_negative [] = false
is_negative (b ∷ bs) = b == 45

-- the number without its sign
abbrev pub magnitude : List ℕ → List ℕ
magnitude [] = []
magnitude (b ∷ bs) = if b == 45 then bs else b ∷ bs

abbrev pub is_point : ℕ → Bool
is_point b = b == 46

-- the digits before the point, or all where there is no point
abbrev pub whole_part : List ℕ → List ℕ
whole_part m = before_first is_point m

-- the digits after the point
abbrev pub fraction_part : List ℕ → List ℕ
fraction_part m = after_first is_point m

-- the first digit is 0
abbrev pub begins_with_0 : List ℕ → Bool
begins_with_0 [] = false
begins_with_0 (d ∷ ds) = d == 48

-- there is a last digit, and it isn't 0
abbrev pub ends_above_0 : List ℕ → Bool
ends_above_0 [] = false
ends_above_0 (d ∷ []) = not (d == 48)
ends_above_0 (d ∷ e ∷ ds) = ends_above_0 (e ∷ ds)

-- digits, the first not 0, or nothing
abbrev pub is_whole : List ℕ → Bool
is_whole ds = list_all is_ascii_digit ds && not (begins_with_0 ds)

-- digits, the last not 0
abbrev pub is_fraction : List ℕ → Bool
is_fraction ds = list_all is_ascii_digit ds && ends_above_0 ds

-- a whole part, a point and a fraction, or both
abbrev pub is_magnitude : List ℕ → Bool
is_magnitude m =
    not (length m == 0) && (is_whole (whole_part m) && (if is_some (position is_point m) then is_fraction (fraction_part m) else true))

-- the text '0'
abbrev pub is_zero : List ℕ → Bool
is_zero [] = false
is_zero (b ∷ []) = b == 48
is_zero (b ∷ c ∷ bs) = false

-- zero, or a sign where it is negative and then a number above zero
abbrev pub is_canonic : List ℕ → Bool
is_canonic s = is_zero s || is_magnitude (magnitude s)

-- the worth of digits, where the first is worth 10^(n-1) and each a tenth of the one before; those past the n-th count as units (n - 1 is 0 there)
abbrev pub worth : ℕ → List ℕ → ℕ
worth n [] = 0
worth n (d ∷ ds) = (d - 48) * 10 ^ (n - 1) + worth (n - 1) ds

-- 10^scale times the number without its sign
abbrev pub magnitude_at : ℕ → List ℕ → ℕ
magnitude_at scale m = worth (length (whole_part m) + scale) (whole_part m ++ fraction_part m)

-- 10^scale times the number
abbrev pub value_at : ℕ → List ℕ → ℤ
value_at scale s = if is_negative s then neg_ℤ (pos (magnitude_at scale (magnitude s))) else pos (magnitude_at scale (magnitude s))

-- the most bytes of a subscript, named in the code as `LONGEST_SUBSCRIPT`
abbrev pub limit : ℕ
limit = 255

-- the most digits that a fraction of such a text can have
abbrev pub scale : ℕ
scale = 254

-- 10^scale times the number, which is whole for texts within the limit
abbrev pub value_of : List ℕ → ℤ
value_of s = value_at scale s
