-- The key of a reference. Source: docs/FORMATS.md, "Key bytes".
-- Read key_of, then key_in and subscript_key, tag by tag: 2 below zero, 3 zero, 4 above zero, 5 any other text.
use Rattle.std.specs.Prelude.{◌≡◌, ℕ, ◌+◌, ◌-◌, ◌*◌, ◌/◌, ◌%◌, ◌<◌, ◌≤◌, ◌==◌, if◌then◌else◌, true, None, List, [], ◌∷◌, ◌++◌, length, map}
use Rattle.canonic_number.specs.Number.{is_canonic, is_zero, is_negative, scale}
use Rattle.canonic_number.specs.Place.{point_at, digits_of}
use Rattle.collation.specs.Reference.{Reference}
use Rattle.collation.specs.Name.{is_name}
use Rattle.collation.specs.Faults.{reference_fault}

-- how keys write numbers: the most digits of a fraction, and the bytes of a point place
pub record KeyForm : Type 0 where
  pub fraction : ℕ
  pub place_bytes : ℕ → List ℕ

-- the two bytes of a number below 65,536, the higher first
abbrev pub two_bytes : ℕ → List ℕ
two_bytes n = n / 256 ∷ n % 256 ∷ []

-- the form in use: subscripts of at most 255 bytes, and a point place in two bytes
abbrev pub long_form : KeyForm
long_form = record { fraction = scale; place_bytes = two_bytes }

-- the old form: subscripts of at most 127 bytes, and a point place in one byte
abbrev pub short_form : KeyForm
short_form = record { fraction = 126; place_bytes = λ n. n ∷ [] }

-- digits by size, and the end below them
abbrev pub rising : List ℕ → List ℕ
rising ds = map (λ d. d - 47) ds ++ 0 ∷ []

-- digits the other way round, and the end above them
abbrev pub falling : List ℕ → List ℕ
falling ds = map (λ d. 58 - d) ds ++ 255 ∷ []

-- the place falls and the digits fall, so that the greater number below zero stands first
abbrev pub below_key : KeyForm → ℕ → List ℕ → List ℕ
below_key form place ds = 2 ∷ (form.place_bytes (2 * form.fraction + 1 - place) ++ falling ds)

-- the place and the digits rise
abbrev pub above_key : KeyForm → ℕ → List ℕ → List ℕ
above_key form place ds = 4 ∷ (form.place_bytes (place + 2) ++ rising ds)

-- a number by its sign, its place (counted from `fraction` places before the point) and its digits
abbrev pub number_key : KeyForm → List ℕ → List ℕ
number_key form s =
    if is_zero s then 3 ∷ []
    else (if is_negative s then below_key form (point_at form.fraction s) (digits_of s) else above_key form (point_at form.fraction s) (digits_of s))

-- a byte of a text, never 0, so that 0 can end the text
abbrev pub escape : ℕ → List ℕ
escape b = if b == 0 then 1 ∷ 1 ∷ [] else (if b == 1 then 1 ∷ 2 ∷ [] else b ∷ [])

abbrev pub escaped : List ℕ → List ℕ
escaped [] = []
escaped (b ∷ bs) = escape b ++ escaped bs

abbrev pub text_key : List ℕ → List ℕ
text_key s = 5 ∷ (escaped s ++ 0 ∷ [])

abbrev pub subscript_key : KeyForm → List ℕ → List ℕ
subscript_key form s = if is_canonic s then number_key form s else text_key s

abbrev pub subscripts_key : KeyForm → List (List ℕ) → List ℕ
subscripts_key form [] = []
subscripts_key form (s ∷ ss) = subscript_key form s ++ subscripts_key form ss

-- the name, its end, and the subscripts
abbrev pub key_in : KeyForm → Reference → List ℕ
key_in form r = r.name ++ 0 ∷ subscripts_key form r.subscripts

abbrev pub key_of : Reference → List ℕ
key_of r = key_in long_form r

-- a subscript within a form's limit
pub record IsSubscriptWithin (form : KeyForm) (s : List ℕ) : Type 0 where
  pub some : 0 < length s
  pub short : length s ≤ form.fraction + 1

-- subscripts within a form's limit
abbrev pub AreSubscriptsWithin : KeyForm → List (List ℕ) → Type 0
AreSubscriptsWithin form [] = Unit {0}
AreSubscriptsWithin form (s ∷ ss) = IsSubscriptWithin form s × AreSubscriptsWithin form ss

-- what a `Ref` keeps
pub record IsFaultless (r : Reference) : Type 0 where
  pub name : is_name r.name ≡ true
  pub subscripts : reference_fault r.subscripts ≡ None
