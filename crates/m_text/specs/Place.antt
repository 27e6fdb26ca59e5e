-- References and places at the front of a text. Source: docs/FORMATS.md, "Lines".
-- Read place_at, then ref_at.
use Rattle.std.specs.Prelude.{ℕ, Bool, not, ◌||◌, ◌==◌, if◌then◌else◌, List, [], ◌∷◌, length, ◌+◌, nat_lt, drop, Option, None, Some, Result, Ok, Err}
use Rattle.std.specs.List.{before_first, position_or_len}
use Rattle.std.specs.Option.{option_map, option_or}
use Rattle.refusal.specs.declared.Refusal.{Refusal}
use Rattle.refusal.specs.declared.Refusal.TheVariants.{BadLine, BadName, TooManySubscripts}
use Rattle.collation.specs.Limits.{most_subscripts}
use Rattle.collation.specs.Bytes as byte
use Rattle.collation.specs.Reference.{Reference, Spot}
use Rattle.collation.specs.Name.{is_letter_or_digit, is_name}
use Rattle.collation.specs.Faults.{reference_fault, ends_open, closed_part}
use Rattle.m_text.specs.Reading.{begins_with_byte, parted_at, then_closing}
use Rattle.m_text.specs.Literal.{literal_at}

-- neither letter nor digit nor '%'
abbrev pub ends_word : ℕ → Bool
ends_word b = not (is_letter_or_digit b || b == byte.percent)

-- the name word at the front, and what follows it
abbrev pub front_word : List ℕ → List ℕ
front_word text = before_first ends_word text

abbrev pub past_word : List ℕ → List ℕ
past_word text = drop (position_or_len ends_word text) text

-- one subscript
abbrev pub subscript_at : List ℕ → Option (List (List ℕ) × List ℕ)
subscript_at text = option_map (λ x. (x.0 ∷ [], x.1)) (literal_at text)

-- subscripts in parentheses, or none
unfoldable pub subscripts_at : List ℕ → Option (List (List ℕ) × List ℕ)
subscripts_at text = if begins_with_byte byte.opening text then then_closing (parted_at subscript_at byte.comma (drop 1 text)) else Some ([], text)

-- a name word and subscripts, whatever faults they have
unfoldable pub named_at : List ℕ → Option (Reference × List ℕ)
named_at text =
    if length (front_word text) == 0
    then None
    else option_map (λ x. (record { name = front_word text; subscripts = x.0 }, x.1)) (subscripts_at (past_word text))

-- the same after a caret
unfoldable pub place_at : List ℕ → Option (Reference × List ℕ)
place_at text = if begins_with_byte byte.caret text then named_at (drop 1 text) else None

-- the fault of a name word
abbrev pub name_fault : List ℕ → Option Refusal
name_fault name = if is_name name then None else Some BadName

-- the first fault of a reference: of its name, its number of subscripts, a subscript
abbrev pub ref_fault : Reference → Option Refusal
ref_fault r = option_or (name_fault r.name) (reference_fault r.subscripts)

-- the place that a name and subscripts make: an empty last subscript leaves it open
abbrev pub spot_of : Reference → Spot
spot_of r = record { reference = record { name = r.name; subscripts = closed_part r.subscripts }; is_open = ends_open r.subscripts }

-- the number of a place's subscripts, an empty last one among them
abbrev pub subscript_count : Spot → ℕ
subscript_count p = if p.is_open then length p.reference.subscripts + 1 else length p.reference.subscripts

-- the first fault of a place: of its name, its number of subscripts, a subscript
abbrev pub spot_fault : Spot → Option Refusal
spot_fault p =
    option_or (name_fault p.reference.name) (if nat_lt most_subscripts (subscript_count p) then Some TooManySubscripts else reference_fault p.reference.subscripts)

-- x, or the fault where there is one
abbrev pub unless : {A : Type 0} → Option Refusal → A → Result A Refusal
unless None x = Ok x
unless (Some fault) x = Err fault

-- what is of the grammar, or its first fault
abbrev pub without_fault : {A : Type 0} → (A → Option Refusal) → Option (A × List ℕ) → Result (A × List ℕ) Refusal
without_fault fault None = Err BadLine
without_fault fault (Some x) = unless (fault x.0) x

-- a reference, or why there is none
abbrev pub ref_at : List ℕ → Result (Reference × List ℕ) Refusal
ref_at text = without_fault ref_fault (place_at text)
