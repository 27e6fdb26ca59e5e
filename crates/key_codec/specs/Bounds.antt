-- What is said of keys: their order, what begins with one, and what lies between two bounds.
use Rattle.std.specs.Prelude.{◌≡◌, ◌↔◌, ◌≢◌, ℕ, List, ◌++◌}
use Rattle.std.specs.declared.cmp.Ordering.TheVariants.{Less, Greater}
use Rattle.std.specs.Ordering.{nat_cmp}
use Rattle.std.specs.Cmp.Lexicographic.{slice_cmp}
use Rattle.collation.specs.Reference.{Reference}
use Rattle.collation.specs.Database.{IsUnder}
use Rattle.collation.specs.Order.{ref_cmp}
use Rattle.key_codec.specs.Key.{long_form, subscript_key, key_of, IsSubscriptWithin, IsFaultless}

-- byte by byte, a beginning first
abbrev pub BytesAreBefore : List ℕ → List ℕ → Type 0
BytesAreBefore a b = slice_cmp nat_cmp a b ≡ Less

-- the first isn't after the second
abbrev pub IsUpTo : List ℕ → List ℕ → Type 0
IsUpTo a b = slice_cmp nat_cmp a b ≢ Greater

-- the bytes begin with the front
abbrev pub Begins : List ℕ → List ℕ → Type 0
Begins bytes front = (rest : List ℕ) × (bytes ≡ front ++ rest)

-- a key stands to the keys of references as its reference to them
abbrev pub KeepsOrder : Reference → List ℕ → Type 0
KeepsOrder r key = (x : Reference) → IsFaultless x → slice_cmp nat_cmp key (key_of x) ≡ ref_cmp r x

-- the keys that begin with this one are those of what lies under the reference
abbrev pub IsPrefixOf : Reference → List ℕ → Type 0
IsPrefixOf r key = (x : Reference) → IsFaultless x → IsUnder r x ↔ Begins (key_of x) key

-- from the one, and before the other, stand the keys of what lies under the reference, and no others
abbrev pub AreBounds : Reference → List ℕ → List ℕ → Type 0
AreBounds r low high = (x : Reference) → IsFaultless x → IsUnder r x ↔ (IsUpTo low (key_of x) × BytesAreBefore (key_of x) high)

-- keys compare as references do
abbrev pub KeysCompareAsReferences : Type 0
KeysCompareAsReferences = (x y : Reference) → IsFaultless x → IsFaultless y → slice_cmp nat_cmp (key_of x) (key_of y) ≡ ref_cmp x y

-- a key is one reference's
abbrev pub EqualKeysAreEqualReferences : Type 0
EqualKeysAreEqualReferences = (x y : Reference) → IsFaultless x → IsFaultless y → key_of x ≡ key_of y → x ≡ y

-- the bytes of a subscript begin no other subscript's bytes
abbrev pub NoSubscriptBeginsAnother : Type 0
NoSubscriptBeginsAnother = (s t : List ℕ) → IsSubscriptWithin long_form s → IsSubscriptWithin long_form t → Begins (subscript_key long_form t) (subscript_key long_form s) → s ≡ t

-- a key begins with another exactly where its reference lies under the other's
abbrev pub KeysBeginAsReferences : Type 0
KeysBeginAsReferences = (r x : Reference) → IsFaultless r → IsFaultless x → IsUnder r x ↔ Begins (key_of x) (key_of r)
