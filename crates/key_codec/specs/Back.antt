-- Key bytes read back as the reference. Source: docs/FORMATS.md, "Key bytes".
-- Read reference_of, then first_subscript_of tag by tag. Bytes that are no key also read as something, which means nothing. That each key reads back: specs/laws/Back.antt.
use Rattle.std.specs.Prelude.{ℕ, ◌+◌, ◌-◌, ◌*◌, ◌==◌, Bool, true, false, zero, suc, if◌then◌else◌, List, [], ◌∷◌, length, map}
use Rattle.canonic_number.specs.Number.{scale}
use Rattle.canonic_number.specs.Place.{written_at, signed}
use Rattle.collation.specs.Reference.{Reference}
use Rattle.key_codec.specs.Reading.{digit_of, number_end}

-- what stands before the first end byte
abbrev pub before_end : ℕ → List ℕ → List ℕ
before_end end [] = []
before_end end (b ∷ bs) = if b == end then [] else b ∷ before_end end bs

-- what stands after it
abbrev pub behind_end : ℕ → List ℕ → List ℕ
behind_end end [] = []
behind_end end (b ∷ bs) = if b == end then bs else behind_end end bs

-- a text from its escaped bytes: 1 and the byte after it stand for one byte
abbrev pub unescaped : List ℕ → List ℕ
unescaped [] = []
unescaped (suc zero ∷ b ∷ bs) = (b - 1) ∷ unescaped bs
unescaped (b ∷ bs) = b ∷ unescaped bs

-- a point's place from the number that stands for it
abbrev pub place_from : Bool → ℕ → ℕ
place_from negative word = if negative then 2 * scale + 1 - word else word - 2

-- the text of a number from its sign, the number that stands for its place and the bytes of its digits
abbrev pub number_text_from : Bool → ℕ → List ℕ → List ℕ
number_text_from negative word bytes = signed negative (written_at scale (place_from negative word) (map (digit_of negative) bytes))

-- a subscript, and the bytes after its key
pub record FirstSubscript : Type 0 where
  pub subscript : List ℕ
  pub rest : List ℕ

-- a number from the bytes after its first
abbrev pub first_number : Bool → List ℕ → FirstSubscript
first_number negative [] = record { subscript = []; rest = [] }
first_number negative (high ∷ []) = record { subscript = []; rest = [] }
first_number negative (high ∷ low ∷ bytes) = record { subscript = number_text_from negative (high * 256 + low) (before_end (number_end negative) bytes); rest = behind_end (number_end negative) bytes }

-- the first subscript, by its first byte: 2 below zero, 3 zero, 4 above zero, 5 any other text
abbrev pub first_subscript_of : List ℕ → FirstSubscript
first_subscript_of [] = record { subscript = []; rest = [] }
first_subscript_of (tag ∷ bytes) =
    if tag == 2 then first_number true bytes
    else (if tag == 3 then record { subscript = 48 ∷ []; rest = bytes }
    else (if tag == 4 then first_number false bytes else record { subscript = unescaped (before_end 0 bytes); rest = behind_end 0 bytes }))

-- one subscript after another, at most so many
abbrev pub subscripts_up_to : ℕ → List ℕ → List (List ℕ)
subscripts_up_to zero bytes = []
subscripts_up_to (suc n) [] = []
subscripts_up_to (suc n) (b ∷ bytes) = (first_subscript_of (b ∷ bytes)).subscript ∷ subscripts_up_to n (first_subscript_of (b ∷ bytes)).rest

-- the name is what stands before the first 0, and the subscripts stand after it, each in at least one byte
unfoldable pub reference_of : List ℕ → Reference
reference_of bytes = record { name = before_end 0 bytes; subscripts = subscripts_up_to (length bytes) (behind_end 0 bytes) }
