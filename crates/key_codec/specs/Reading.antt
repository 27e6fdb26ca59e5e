-- What reading a key finds: the one subscript whose key stands in front, by its parts.
use Rattle.std.specs.Prelude.{◌≡◌, ℕ, ◌+◌, ◌-◌, ◌*◌, ◌<◌, ◌≤◌, Bool, true, false, if◌then◌else◌, List, [], ◌∷◌, ◌++◌, length}
use Rattle.canonic_number.specs.Number.{is_canonic, is_negative, scale, limit}
use Rattle.canonic_number.specs.Place.{point_at, digits_of}
use Rattle.key_codec.specs.Key.{long_form, two_bytes, subscript_key, IsSubscriptWithin}

-- the bytes are the key of this subscript, and then the rest
abbrev pub BeginsWith : List ℕ → List ℕ → List ℕ → Type 0
BeginsWith bytes s rest = IsSubscriptWithin long_form s × (bytes ≡ subscript_key long_form s ++ rest)

-- no subscript's key stands in front
abbrev pub BeginsWithNone : List ℕ → Type 0
BeginsWithNone bytes = (s u : List ℕ) → IsSubscriptWithin long_form s → bytes ≡ subscript_key long_form s ++ u → ⊥

-- the first byte, the number that stands for a place, the byte of a digit, and the last, below zero and above it
abbrev pub tag_of : Bool → ℕ
tag_of negative = if negative then 2 else 4

abbrev pub place_word : Bool → ℕ → ℕ
place_word negative place = if negative then 2 * scale + 1 - place else place + 2

abbrev pub digit_byte : Bool → ℕ → ℕ
digit_byte negative d = if negative then 58 - d else d - 47

abbrev pub number_end : Bool → ℕ
number_end negative = if negative then 255 else 0

-- the digit of a byte up to 10
abbrev pub digit_of : Bool → ℕ → ℕ
digit_of negative b = if negative then 58 - b else 57 - (10 - b)

-- a text within the limit is the canonic number other than zero with this sign, place and digits
pub record IsNumberOf (text : List ℕ) (negative : Bool) (place : ℕ) (ds : List ℕ) : Type 0 where
  pub canonic : is_canonic text ≡ true
  pub short : length text ≤ limit
  pub some : 0 < length ds
  pub sign : negative ≡ is_negative text
  pub point : place ≡ point_at scale text
  pub digits : ds ≡ digits_of text

-- a subscript whose key is this first byte, these two bytes of its place, these bytes of its digits, and their end
abbrev pub IsNumberKey : Bool → ℕ → List ℕ → List ℕ → Type 0
IsNumberKey negative word front s = IsSubscriptWithin long_form s × (subscript_key long_form s ≡ tag_of negative ∷ (two_bytes word ++ (front ++ number_end negative ∷ [])))

-- a subscript that is no canonic number
pub record IsOtherText (s : List ℕ) : Type 0 where
  pub bounds : IsSubscriptWithin long_form s
  pub other : is_canonic s ≡ false
