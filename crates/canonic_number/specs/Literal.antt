-- Numeric literals, and the canonic text of one.
-- Read is_numeric, then canonic_of.
use Rattle.std.specs.Prelude.{ℕ, Bool, not, ◌&&◌, ◌==◌, if◌then◌else◌, List, [], ◌∷◌, ◌++◌, length, is_some}
use Rattle.std.specs.List.{list_all, position}
use Rattle.std.specs.Char.{is_ascii_digit}
use Rattle.canonic_number.specs.Number.{is_negative, magnitude, is_point, whole_part, fraction_part}
use Rattle.canonic_number.specs.Place.{after_zeros, before_zeros, with_point, signed}

-- one digit or more
abbrev pub some_digits : List ℕ → Bool
some_digits ds = not (length ds == 0) && list_all is_ascii_digit ds

-- digits before the point, where there is one, and at least one digit after it; else at least one digit
abbrev pub is_unsigned_literal : List ℕ → Bool
is_unsigned_literal m =
    if is_some (position is_point m) then list_all is_ascii_digit (whole_part m) && some_digits (fraction_part m) else some_digits (whole_part m)

-- with a '-' before it or without
abbrev pub is_numeric : List ℕ → Bool
is_numeric s = is_unsigned_literal (magnitude s)

-- the text with these digits before the point and after it; with none it is '0', which has no sign
abbrev pub shortest : Bool → List ℕ → List ℕ → List ℕ
shortest negative whole fraction =
    if length whole == 0 && length fraction == 0 then 48 ∷ [] else signed negative (whole ++ with_point fraction)

-- the literal without leading zeros, and without trailing zeros of its fraction
abbrev pub canonic_of : List ℕ → List ℕ
canonic_of s = shortest (is_negative s) (after_zeros (whole_part (magnitude s))) (before_zeros (fraction_part (magnitude s)))
