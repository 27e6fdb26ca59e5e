-- The lines of a text. Source: docs/FORMATS.md, "Grammar of lines".
use Rattle.std.specs.Prelude.{◌≡◌, ◌⊎◌, ℕ, Bool, true, not, List, [], ◌∷◌, ◌++◌, ◌==◌, if◌then◌else◌}
use Rattle.std.specs.List.{list_all, flat_map}
use Rattle.std.specs.Io.BufRead.{strip_last}
use Rattle.collation.specs.Bytes as byte

-- an empty line is passed over
abbrev pub nonempty_line : List ℕ → List (List ℕ)
nonempty_line [] = []
nonempty_line (b ∷ bs) = (b ∷ bs) ∷ []

-- a line has begun: it ends at byte 10, and a byte 13 directly before that isn't part of it, or it ends with the text
abbrev pub lines_from : List ℕ → List ℕ → List (List ℕ)
lines_from line [] = nonempty_line line
lines_from line (b ∷ bs) = if b == byte.line_feed then nonempty_line (strip_last byte.carriage_return line) ++ lines_from [] bs else lines_from (line ++ b ∷ []) bs

-- the lines that aren't empty
abbrev pub lines_of : List ℕ → List (List ℕ)
lines_of text = lines_from [] text

-- no byte 10
abbrev pub has_no_end : List ℕ → Bool
has_no_end text = list_all (λ b. not (b == byte.line_feed)) text

-- nothing, or a text that ends with a byte 10
abbrev pub EndsALine : List ℕ → Type 0
EndsALine text = (text ≡ []) ⊎ ((line : List ℕ) × (text ≡ line ++ byte.line_feed ∷ []))

-- whole lines stand before the rest
pub record AreLinesBefore (rest text : List ℕ) : Type 0 where
  pub front : List ℕ
  pub ends : EndsALine front
  pub is : text ≡ front ++ rest

-- a text of lines, each ended by a byte 10, and of what follows the last of them
abbrev pub text_of_lines : List (List ℕ) → List ℕ → List ℕ
text_of_lines [] last = last
text_of_lines (l ∷ ls) last = l ++ byte.line_feed ∷ text_of_lines ls last

-- its lines are those, less a byte 13 before an end, and the last, of which the empty ones are passed over
abbrev pub LinesAreCutAtTheirEnds : Type 0
LinesAreCutAtTheirEnds =
    (ls : List (List ℕ)) (last : List ℕ) → list_all has_no_end ls ≡ true → has_no_end last ≡ true → lines_of (text_of_lines ls last) ≡ flat_map (λ l. nonempty_line (strip_last byte.carriage_return l)) ls ++ nonempty_line last
