-- What ties reading, the grammar and writing to one another. Each is a clause of a function in `src/laws.rt`.
use Rattle.std.specs.Prelude.{◌≡◌, ◌≢◌, ⊤, ℕ, Bool, true, false, List, [], ◌∷◌, ◌++◌, None, Some, Ok}
use Rattle.std.specs.Bool.{beq}
use Rattle.std.specs.List.{list_all, flat_map}
use Rattle.collation.specs.Name.{is_name}
use Rattle.collation.specs.Reference.{Reference}
use Rattle.collation.specs.Faults.{reference_fault}
use Rattle.m_text.specs.Literal.{literal_at}
use Rattle.m_text.specs.Place.{place_at, ref_at}
use Rattle.m_text.specs.Written.{is_plain, runs, literal_text, reference_text}
use Rattle.m_text.specs.Forms.{IsLiteral, IsReference, IsBreak, IsReferenceBreak, are_bytes}

-- what is read as a literal is one that stands for the string
abbrev pub ReadLiteralsAreSpelled : Type 0
ReadLiteralsAreSpelled = (bytes s rest : List ℕ) → literal_at bytes ≡ Some (s, rest) → (text : List ℕ) × IsLiteral text s × (bytes ≡ text ++ rest)

-- and each literal is read as its string, where it can't go on
abbrev pub SpelledLiteralsAreRead : Type 0
SpelledLiteralsAreRead = (text s rest : List ℕ) → IsLiteral text s → IsBreak rest → literal_at (text ++ rest) ≡ Some (s, rest)

-- what is written of a string is a literal that stands for it
abbrev pub WrittenStringsAreLiterals : Type 0
WrittenStringsAreLiterals = (s : List ℕ) → are_bytes s ≡ true → IsLiteral (literal_text s) s

-- so it is read again, where it can't go on
abbrev pub WrittenStringsAreRead : Type 0
WrittenStringsAreRead = (s rest : List ℕ) → are_bytes s ≡ true → IsBreak rest → literal_at (literal_text s ++ rest) ≡ Some (s, rest)

-- the kind of a run's bytes, told by its first
abbrev pub kind_of : List ℕ → Bool
kind_of [] = false
kind_of (b ∷ bs) = is_plain b

-- some bytes, all plain or all not
abbrev pub IsOfOneKind : List ℕ → Type 0
IsOfOneKind [] = ⊥
IsOfOneKind (b ∷ bs) = list_all (λ c. beq (is_plain c) (is_plain b)) bs ≡ true

-- runs, of which two neighbours are of two kinds
abbrev pub AreRuns : List (List ℕ) → Type 0
AreRuns [] = ⊤
AreRuns (r ∷ []) = IsOfOneKind r
AreRuns (r ∷ q ∷ rs) = IsOfOneKind r × (kind_of r ≢ kind_of q) × AreRuns (q ∷ rs)

-- a string is written in its longest runs: put together they are the string
abbrev pub RunsAreTheLongest : Type 0
RunsAreTheLongest = (s : List ℕ) → AreRuns (runs s) × (flat_map (λ r. r) (runs s) ≡ s)

-- the same of references
abbrev pub ReadReferencesAreSpelled : Type 0
ReadReferencesAreSpelled = (bytes : List ℕ) (r : Reference) (rest : List ℕ) → place_at bytes ≡ Some (r, rest) → (text : List ℕ) × IsReference text r × (bytes ≡ text ++ rest)

abbrev pub SpelledReferencesAreRead : Type 0
SpelledReferencesAreRead = (text : List ℕ) (r : Reference) (rest : List ℕ) → IsReference text r → IsReferenceBreak rest → place_at (text ++ rest) ≡ Some (r, rest)

-- what is written of a reference is read again
abbrev pub WrittenReferencesAreRead : Type 0
WrittenReferencesAreRead =
    (r : Reference) (rest : List ℕ) → is_name r.name ≡ true → reference_fault r.subscripts ≡ None → list_all are_bytes r.subscripts ≡ true → IsReferenceBreak rest →
    ref_at (reference_text r ++ rest) ≡ Ok (r, rest)
