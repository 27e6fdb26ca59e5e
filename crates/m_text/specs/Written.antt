-- How strings are written. Source: docs/FORMATS.md, "Written literals".
-- Read literal_text and reference_text first.
use Rattle.std.specs.Prelude.{ℕ, Bool, not, ◌&&◌, ◌==◌, nat_le, if◌then◌else◌, List, [], ◌∷◌, ◌++◌, codes, decimal}
use Rattle.std.specs.List.{flat_map}
use Rattle.std.specs.Bool.{beq}
use Rattle.collation.specs.Bytes as byte
use Rattle.canonic_number.specs.Number.{is_canonic}
use Rattle.collation.specs.Reference.{Reference}

-- a byte that is written in quotes
abbrev pub is_plain : ℕ → Bool
is_plain b = nat_le 32 b && nat_le b 126

-- not of the kind
abbrev pub ends_run : Bool → ℕ → Bool
ends_run plain b = not (beq (is_plain b) plain)

-- a quote is written twice
abbrev pub doubled : ℕ → List ℕ
doubled b = if b == byte.quote then byte.quote ∷ byte.quote ∷ [] else b ∷ []

abbrev pub quoted : List ℕ → List ℕ
quoted s = byte.quote ∷ (flat_map doubled s ++ byte.quote ∷ [])

-- the texts of some things, with the byte b between two
abbrev pub parted : {A : Type 0} → ℕ → (A → List ℕ) → List A → List ℕ
parted b text [] = []
parted b text (x ∷ xs) = text x ++ flat_map (λ y. b ∷ text y) xs

-- $C with the codes of the bytes
abbrev pub char_text : List ℕ → List ℕ
char_text s = codes "$C(" ++ (parted byte.comma decimal s ++ byte.closing ∷ [])

-- a byte before runs joins the first of them where that is of its kind
abbrev pub put_before : ℕ → List (List ℕ) → List (List ℕ)
put_before b [] = (b ∷ []) ∷ []
put_before b ([] ∷ rs) = (b ∷ []) ∷ [] ∷ rs
put_before b ((c ∷ r) ∷ rs) = if beq (is_plain b) (is_plain c) then (b ∷ c ∷ r) ∷ rs else (b ∷ []) ∷ (c ∷ r) ∷ rs

-- the longest runs of bytes that are all plain or all not
abbrev pub runs : List ℕ → List (List ℕ)
runs [] = []
runs (b ∷ bs) = put_before b (runs bs)

-- a run in quotes, or as $C
abbrev pub run_text : List ℕ → List ℕ
run_text [] = quoted []
run_text (b ∷ bs) = if is_plain b then quoted (b ∷ bs) else char_text (b ∷ bs)

-- the one way in which a string is written
abbrev pub literal_text : List ℕ → List ℕ
literal_text [] = quoted []
literal_text (b ∷ bs) = if is_canonic (b ∷ bs) then b ∷ bs else parted byte.underscore run_text (runs (b ∷ bs))

-- literals in parentheses, or nothing
abbrev pub subscripts_text : List (List ℕ) → List ℕ
subscripts_text [] = []
subscripts_text (s ∷ ss) = byte.opening ∷ (parted byte.comma literal_text (s ∷ ss) ++ byte.closing ∷ [])

-- a caret, the name and the subscripts
abbrev pub reference_text : Reference → List ℕ
reference_text r = byte.caret ∷ (r.name ++ subscripts_text r.subscripts)
