-- The timeout at the end of a line with a LOCK. Source: docs/FORMATS.md, "Lines". Read has_timeout and timeout_in.
use Rattle.std.specs.Prelude.{ℕ, ◌+◌, ◌-◌, ◌*◌, Bool, false, nat_le, List, [], ◌∷◌, length, drop, Option, Some, None, slice_get, unwrap_or, ◌&&◌, ◌||◌, ◌==◌, if◌then◌else◌}
use Rattle.std.specs.Option.{option_map, option_or}
use Rattle.std.specs.List.{list_all}
use Rattle.collation.specs.Bytes as byte
use Rattle.m_text.specs.Reading.{begins_with_byte}
use Rattle.m_text.specs.Literal.{front_digits, past_digits, number_from}
use Rattle.script.specs.Commands.{is_blank}
use Rattle.script.specs.Locking.{are_few, seconds_at}

-- behind one of the line's colons stand seconds that blanks alone follow
abbrev pub has_timeout : List ℕ → Bool
has_timeout [] = false
has_timeout (b ∷ bs) = (b == byte.colon && unwrap_or (option_map (list_all is_blank) (seconds_at bs)) false) || has_timeout bs

-- ---- how long it is

-- the value of a digit, 0 where there is none
abbrev pub value_of : Option ℕ → ℕ
value_of None = 0
value_of (Some digit) = digit - 48

-- that of the digit at this place
abbrev pub digit_in : List ℕ → ℕ → ℕ
digit_in digits place = value_of (slice_get digits place)

-- the first three digits behind a point, as thousandths
abbrev pub thousandths_in : List ℕ → ℕ
thousandths_in digits = (digit_in digits 0 * 100 + digit_in digits 1 * 10) + digit_in digits 2

-- whole seconds that blanks alone follow, in milliseconds
abbrev pub whole_in : List ℕ → List ℕ → Option ℕ
whole_in digits rest = if are_few digits && list_all is_blank rest then Some (number_from 0 digits * 1000) else None

-- the same with what stands behind the point
abbrev pub fraction_in : List ℕ → List ℕ → Option ℕ
fraction_in digits text =
    if nat_le (length digits) 9 && (are_few (front_digits text) && list_all is_blank (past_digits text))
    then Some (number_from 0 digits * 1000 + thousandths_in (front_digits text)) else None

-- how many milliseconds the seconds are that blanks alone follow
abbrev pub millis_in : List ℕ → Option ℕ
millis_in text =
    if begins_with_byte byte.point (past_digits text) then fraction_in (front_digits text) (drop 1 (past_digits text)) else whole_in (front_digits text) (past_digits text)

-- those behind the first ':' that has some
abbrev pub timeout_in : List ℕ → Option ℕ
timeout_in [] = None
timeout_in (b ∷ bs) = if b == byte.colon then option_or (millis_in bs) (timeout_in bs) else timeout_in bs
