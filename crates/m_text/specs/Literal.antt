-- Literals at the front of a text. Source: docs/FORMATS.md, "Lines".
-- Read literal_at first, then what it names.
use Rattle.std.specs.Prelude.{ℕ, ◌+◌, ◌-◌, ◌*◌, Bool, true, false, not, ◌&&◌, ◌||◌, ◌==◌, nat_le, nat_lt, if◌then◌else◌, List, [], ◌∷◌, length, drop, take, Option, None, Some, codes}
use Rattle.std.specs.List.{before_first, position_or_len}
use Rattle.std.specs.Char.{is_ascii_digit, is_ascii_alphabetic, to_ascii_uppercase}
use Rattle.collation.specs.Bytes as byte
use Rattle.canonic_number.specs.Number.{is_negative, magnitude}
use Rattle.canonic_number.specs.Literal.{is_numeric, canonic_of}
pub use Rattle.canonic_number.specs.Parts.{is_no_digit, front_digits, past_digits}
use Rattle.m_text.specs.Reading.{with_front, begins_with_byte, parted_at, then_closing}

abbrev pub is_quote : ℕ → Bool
is_quote b = b == byte.quote

-- after an opening quote: the string, in which a quote is written twice, and what follows the closing quote
unfoldable pub quoted_at : List ℕ → Option (List ℕ × List ℕ)
quoted_at [] = None
quoted_at (b ∷ []) = if b == byte.quote then Some ([], []) else None
quoted_at (b ∷ c ∷ bs) =
    if b == byte.quote
    then (if c == byte.quote then with_front (byte.quote ∷ []) (quoted_at bs) else Some ([], c ∷ bs))
    else with_front (b ∷ []) (quoted_at (c ∷ bs))

-- the number of digits that follow those of n
abbrev pub number_from : ℕ → List ℕ → ℕ
number_from n [] = n
number_from n (d ∷ ds) = number_from (n * 10 + (d - 48)) ds

-- one to three digits of a number up to 255
abbrev pub is_code : List ℕ → Bool
is_code ds = nat_lt 0 (length ds) && (nat_le (length ds) 3 && nat_le (number_from 0 ds) 255)

-- a code: the string of the one byte that it stands for
abbrev pub code_at : List ℕ → Option (List ℕ × List ℕ)
code_at text = if is_code (front_digits text) then Some (number_from 0 (front_digits text) ∷ [], past_digits text) else None

-- no letter
abbrev pub ends_letters : ℕ → Bool
ends_letters b = not (is_ascii_alphabetic b)

-- the letters at the front, and what follows them
abbrev pub front_letters : List ℕ → List ℕ
front_letters text = before_first ends_letters text

abbrev pub past_letters : List ℕ → List ℕ
past_letters text = drop (position_or_len ends_letters text) text

-- the letters are those of the word, which is in capitals, in any case
abbrev pub is_word : List ℕ → List ℕ → Bool
is_word [] [] = true
is_word (w ∷ ws) (b ∷ bs) = to_ascii_uppercase b == w && is_word ws bs
is_word ws bs = false

abbrev pub is_char_word : List ℕ → Bool
is_char_word letters = is_word (codes "C") letters || is_word (codes "CHAR") letters

-- after '$': C or CHAR, and codes in parentheses
unfoldable pub chars_at : List ℕ → Option (List ℕ × List ℕ)
chars_at text =
    if is_char_word (front_letters text) && begins_with_byte byte.opening (past_letters text)
    then then_closing (parted_at code_at byte.comma (drop 1 (past_letters text)))
    else None

-- a part of a string: a quoted text, or $C with codes
unfoldable pub part_at : List ℕ → Option (List ℕ × List ℕ)
part_at [] = None
part_at (b ∷ bs) = if b == byte.quote then quoted_at bs else (if b == byte.dollar then chars_at bs else None)

-- neither digit nor point
abbrev pub ends_number : ℕ → Bool
ends_number b = not (is_ascii_digit b || b == byte.point)

-- how many bytes at the front a number could take: a '-', then digits and points
abbrev pub number_len : List ℕ → ℕ
number_len text = if is_negative text then position_or_len ends_number (magnitude text) + 1 else position_or_len ends_number (magnitude text)

-- a numeric literal: the canonic number that it stands for
unfoldable pub numeric_at : List ℕ → Option (List ℕ × List ℕ)
numeric_at text =
    if is_numeric (take (number_len text) text) then Some (canonic_of (take (number_len text) text), drop (number_len text) text) else None

-- a literal: the string that it stands for, and what follows it
unfoldable pub literal_at : List ℕ → Option (List ℕ × List ℕ)
literal_at text = if begins_with_byte byte.quote text || begins_with_byte byte.dollar text then parted_at part_at byte.underscore text else numeric_at text
