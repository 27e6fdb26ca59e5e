-- The old form of keys, and the bytes of the form in use that stand for an old key's.
-- Read short_key_of, then lengthened; that the one leads to the other: specs/laws/Short.antt.
use Rattle.std.specs.Prelude.{◌≡◌, ℕ, Bool, ◌+◌, ◌==◌, if◌then◌else◌, nat_le, true, List, [], ◌∷◌, ◌++◌, length}
use Rattle.std.specs.List.{list_all}
use Rattle.std.specs.Ordering.{nat_cmp}
use Rattle.std.specs.Cmp.Lexicographic.{slice_cmp}
use Rattle.collation.specs.Reference.{Reference}
use Rattle.collation.specs.Order.{ref_cmp}
use Rattle.key_codec.specs.Key.{short_form, two_bytes, key_in, key_of, IsFaultless}
use Rattle.key_codec.specs.Back.{reference_of}
use Rattle.key_codec.specs.declared.lengthen.Stage.{Stage}
use Rattle.key_codec.specs.declared.lengthen.Stage.TheVariants.{Tag, Place, Before}

-- the most bytes of a subscript in an old key
abbrev pub short_limit : ℕ
short_limit = 127

abbrev pub are_short : List (List ℕ) → Bool
are_short ss = list_all (λ s. nat_le (length s) short_limit) ss

-- a reference that has an old key
pub record IsShortReference (r : Reference) : Type 0 where
  pub form : IsFaultless r
  pub short : are_short r.subscripts ≡ true

-- its old key
abbrev pub short_key_of : Reference → List ℕ
short_key_of r = key_in short_form r

-- an old key stands to the old keys of references as its reference to them
abbrev pub KeepsShortOrder : Reference → List ℕ → Type 0
KeepsShortOrder r key = (x : Reference) → IsShortReference x → slice_cmp nat_cmp key (short_key_of x) ≡ ref_cmp r x

-- what a first byte of a subscript says of the next byte: 255 and 0 end the digits of a number below zero and above it
abbrev pub after_tag : ℕ → Stage
after_tag tag = if tag == 2 then Place 255 else (if tag == 4 then Place 0 else (if tag == 3 then Tag else Before 0))

-- what comes after a byte
abbrev pub next_stage : Stage → ℕ → Stage
next_stage Tag byte = after_tag byte
next_stage (Place end) byte = Before end
next_stage (Before end) byte = if byte == end then Tag else Before end

-- the bytes in its place: places are counted from 128 further down, and take two bytes
abbrev pub new_bytes : Stage → ℕ → List ℕ
new_bytes Tag byte = byte ∷ []
new_bytes (Place end) byte = two_bytes (byte + 128)
new_bytes (Before end) byte = byte ∷ []

abbrev pub lengthened_from : Stage → List ℕ → List ℕ
lengthened_from stage [] = []
lengthened_from stage (byte ∷ bytes) = new_bytes stage byte ++ lengthened_from (next_stage stage byte) bytes

-- the key of the form in use, from the old key
abbrev pub lengthened : List ℕ → List ℕ
lengthened bytes = lengthened_from (Before 0) bytes

-- an old key reads back as its reference
unfoldable pub short_reference_of : List ℕ → Reference
short_reference_of bytes = reference_of (lengthened bytes)

-- the bytes are the old key of this reference
pub record KeepsShort (bytes : List ℕ) (r : Reference) : Type 0 where
  pub key : bytes ≡ short_key_of r
  pub form : IsShortReference r

-- old keys compare as references do
abbrev pub OldKeysCompareAsReferences : Type 0
OldKeysCompareAsReferences = (x y : Reference) → IsShortReference x → IsShortReference y → slice_cmp nat_cmp (short_key_of x) (short_key_of y) ≡ ref_cmp x y

-- an old key is one reference's
abbrev pub EqualOldKeysAreEqualReferences : Type 0
EqualOldKeysAreEqualReferences = (x y : Reference) → IsShortReference x → IsShortReference y → short_key_of x ≡ short_key_of y → x ≡ y

-- what stands for an old key is the key of the same reference
abbrev pub OldKeysAreLengthened : Type 0
OldKeysAreLengthened = (r : Reference) → IsShortReference r → lengthened (short_key_of r) ≡ key_of r
