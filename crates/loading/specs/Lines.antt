-- The lines of a text that is loaded, empty ones too, and how many of them are headers. Source: docs/FORMATS.md, "Loaded listings".
use Rattle.std.specs.Prelude.{ℕ, ◌-◌, Bool, not, ◌&&◌, ◌==◌, nat_eq, List, [], ◌∷◌, ◌++◌, length, drop, codes, if◌then◌else◌}
use Rattle.std.specs.Cmp.Lexicographic.{pointwise}
use Rattle.std.specs.Io.BufRead.{strip_last}
use Rattle.collation.specs.Bytes as byte
use Rattle.m_text.specs.Reading.{begins_with_byte}

-- a line has begun: it ends at byte 10, and a byte 13 directly before that isn't part of it, or it ends with the text
abbrev pub lines_from : List ℕ → List ℕ → List (List ℕ)
lines_from line [] = line ∷ []
lines_from line (b ∷ bs) = if b == byte.line_feed then strip_last byte.carriage_return line ∷ lines_from [] bs else lines_from (line ++ b ∷ []) bs

-- all lines; after a last byte 10 there is an empty one
abbrev pub all_lines : List ℕ → List (List ℕ)
all_lines text = lines_from [] text

-- the line's last three bytes
abbrev pub ends_in_zwr : List ℕ → Bool
ends_in_zwr line = pointwise nat_eq (drop (length line - 3) line) (codes "ZWR")

-- the line isn't a reference's
abbrev pub is_header : List ℕ → Bool
is_header line = not (begins_with_byte byte.caret line)

-- the first two lines are headers: the second ends with ZWR
abbrev pub are_headers : List ℕ → List ℕ → Bool
are_headers first second = is_header first && (is_header second && ends_in_zwr second)

-- two headers or none
abbrev pub header_lines : List (List ℕ) → ℕ
header_lines (first ∷ second ∷ lines) = if are_headers first second then 2 else 0
header_lines lines = 0
