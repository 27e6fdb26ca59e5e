-- The grammar of literals and references: which texts spell which strings. Source: docs/FORMATS.md, "Lines".
-- Read IsLiteral and IsReference first.
use Rattle.std.specs.Prelude.{◌≡◌, ◌⊎◌, ⊤, ◌<◌, ◌≤◌, ℕ, Bool, true, false, ◌||◌, ◌==◌, nat_le, List, [], ◌∷◌, ◌++◌, length}
use Rattle.std.specs.List.{list_all}
use Rattle.std.specs.Char.{is_ascii_digit}
use Rattle.collation.specs.Bytes as byte
use Rattle.canonic_number.specs.Grammar.{IsNumericLiteral}
use Rattle.canonic_number.specs.Literal.{canonic_of}
use Rattle.collation.specs.Name.{is_letter_or_digit}
use Rattle.collation.specs.Reference.{Reference}
use Rattle.m_text.specs.Literal.{number_from, is_char_word}
use Rattle.m_text.specs.Written.{quoted}

-- one or more forms, with the byte b between two
pub data IsParted {A : Type 0} (Form : List ℕ → List A → Type 0) (b : ℕ) : List ℕ → List A → Type 0 where
  one : {text : List ℕ} {x : List A} → Form text x → IsParted Form b text x
  more : {text texts : List ℕ} {x xs : List A} → Form text x → IsParted Form b texts xs → IsParted Form b (text ++ b ∷ texts) (x ++ xs)

-- one to three digits, 0 to 255: the string of that byte
pub record IsCode (text s : List ℕ) : Type 0 where
  pub digits : list_all is_ascii_digit text ≡ true
  pub some : 0 < length text
  pub few : length text ≤ 3
  pub small : number_from 0 text ≤ 255
  pub byte : s ≡ number_from 0 text ∷ []

-- $C or $CHAR in any case of letters, and codes in parentheses
pub record IsChars (text s : List ℕ) : Type 0 where
  pub word : List ℕ
  pub codes : List ℕ
  pub named : is_char_word word ≡ true
  pub listed : IsParted IsCode byte.comma codes s
  pub parts : text ≡ byte.dollar ∷ (word ++ (byte.opening ∷ (codes ++ byte.closing ∷ [])))

-- in quotes, where a quote is written twice, or by codes
abbrev pub IsPart : List ℕ → List ℕ → Type 0
IsPart text s = (text ≡ quoted s) ⊎ IsChars text s

-- a numeric literal, which stands for its canonic number
abbrev pub IsNumber : List ℕ → List ℕ → Type 0
IsNumber text s = IsNumericLiteral text × (s ≡ canonic_of text)

-- the text is a literal that stands for the string
abbrev pub IsLiteral : List ℕ → List ℕ → Type 0
IsLiteral text s = IsNumber text s ⊎ IsParted IsPart byte.underscore text s

-- a literal, for the list of its string
pub record IsSubscript (text : List ℕ) (ss : List (List ℕ)) : Type 0 where
  pub string : List ℕ
  pub literal : IsLiteral text string
  pub alone : ss ≡ string ∷ []

-- nothing, or literals in parentheses
pub data AreSubscripts : List ℕ → List (List ℕ) → Type 0 where
  none : AreSubscripts [] []
  listed : {texts : List ℕ} {ss : List (List ℕ)} → IsParted IsSubscript byte.comma texts ss → AreSubscripts (byte.opening ∷ (texts ++ byte.closing ∷ [])) ss

-- a letter, a digit or '%'
abbrev pub is_word_byte : ℕ → Bool
is_word_byte b = is_letter_or_digit b || b == byte.percent

-- the text is a name word and subscripts, whatever faults they have
pub record IsNamed (text : List ℕ) (r : Reference) : Type 0 where
  pub texts : List ℕ
  pub word : list_all is_word_byte r.name ≡ true
  pub some : 0 < length r.name
  pub subscripts : AreSubscripts texts r.subscripts
  pub parts : text ≡ r.name ++ texts

-- the same after a caret
pub record IsReference (text : List ℕ) (r : Reference) : Type 0 where
  pub named : List ℕ
  pub spelled : IsNamed named r
  pub parts : text ≡ byte.caret ∷ named

-- a byte with which a literal could go on: a digit, a point, a quote, '_'
abbrev pub goes_on : ℕ → Bool
goes_on b = is_ascii_digit b || (b == byte.point || (b == byte.quote || b == byte.underscore))

-- a literal ends before this
abbrev pub IsBreak : List ℕ → Type 0
IsBreak [] = ⊤
IsBreak (b ∷ bs) = goes_on b ≡ false

-- a byte with which a reference could go on: one of its name, or '('
abbrev pub reference_goes_on : ℕ → Bool
reference_goes_on b = is_word_byte b || b == byte.opening

-- a reference ends before this
abbrev pub IsReferenceBreak : List ℕ → Type 0
IsReferenceBreak [] = ⊤
IsReferenceBreak (b ∷ bs) = reference_goes_on b ≡ false

-- a string of bytes
abbrev pub are_bytes : List ℕ → Bool
are_bytes s = list_all (λ b. nat_le b 255) s
