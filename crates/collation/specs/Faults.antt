-- Which fault a list of subscripts has. Source: docs/RULES.md, "References" and "Refusals".
use Rattle.std.specs.Prelude.{ℕ, Bool, false, Option, None, Some, List, [], ◌∷◌, length, ◌==◌, nat_lt, if◌then◌else◌}
use Rattle.refusal.specs.declared.Refusal.{Refusal}
use Rattle.refusal.specs.declared.Refusal.TheVariants.{EmptySubscript, SubscriptTooLong, TooManySubscripts}
use Rattle.canonic_number.specs.Number.{limit}
use Rattle.collation.specs.Limits.{most_subscripts}

-- the first fault from left to right: empty, or longer than the limit
abbrev pub subscripts_fault : List (List ℕ) → Option Refusal
subscripts_fault [] = None
subscripts_fault (s ∷ ss) =
    if length s == 0 then Some EmptySubscript else (if nat_lt limit (length s) then Some SubscriptTooLong else subscripts_fault ss)

-- the number of subscripts is looked at first
abbrev pub reference_fault : List (List ℕ) → Option Refusal
reference_fault ss = if nat_lt most_subscripts (length ss) then Some TooManySubscripts else subscripts_fault ss

-- the last subscript is empty
abbrev pub ends_open : List (List ℕ) → Bool
ends_open [] = false
ends_open (s ∷ []) = length s == 0
ends_open (s ∷ t ∷ ts) = ends_open (t ∷ ts)

-- the subscripts without an empty last one
abbrev pub closed_part : List (List ℕ) → List (List ℕ)
closed_part [] = []
closed_part (s ∷ []) = if length s == 0 then [] else s ∷ []
closed_part (s ∷ t ∷ ts) = s ∷ closed_part (t ∷ ts)

-- the same of a place, whose last subscript may be empty and counts among them
abbrev pub place_fault : List (List ℕ) → Option Refusal
place_fault ss = if nat_lt most_subscripts (length ss) then Some TooManySubscripts else reference_fault (closed_part ss)
