-- What is true of all canonic numbers and numeric literals. Each is a clause of a function in `src/laws.rt`.
use Rattle.std.specs.Prelude.{◌≡◌, ◌≤◌, ◌+◌, ℕ, true, List, length}
use Rattle.canonic_number.specs.Number.{is_canonic, value_at, magnitude, fraction_part}
use Rattle.canonic_number.specs.Literal.{is_numeric, canonic_of}

-- two canonic texts of one value are one text; k is any scale, and the texts have at most k + 1 bytes
abbrev pub EqualValuesAreEqualTexts : Type 0
EqualValuesAreEqualTexts =
    (k : ℕ) (s t : List ℕ) → is_canonic s ≡ true → is_canonic t ≡ true → length s ≤ k + 1 → length t ≤ k + 1 → value_at k s ≡ value_at k t → s ≡ t

-- the text made of a literal is canonic
abbrev pub AnswersAreCanonic : Type 0
AnswersAreCanonic = (s : List ℕ) → is_numeric s ≡ true → is_canonic (canonic_of s) ≡ true

-- it has the literal's value, at every scale
abbrev pub AnswersKeepTheValue : Type 0
AnswersKeepTheValue = (k : ℕ) (s : List ℕ) → is_numeric s ≡ true → value_at k (canonic_of s) ≡ value_at k s

-- literals of one value have one text; k is any scale not below the lengths of their fractions
abbrev pub EqualLiteralsHaveEqualAnswers : Type 0
EqualLiteralsHaveEqualAnswers =
    (k : ℕ) (s t : List ℕ) → is_numeric s ≡ true → is_numeric t ≡ true → length (fraction_part (magnitude s)) ≤ k → length (fraction_part (magnitude t)) ≤ k →
    value_at k s ≡ value_at k t → canonic_of s ≡ canonic_of t

-- a canonic text is a literal
abbrev pub CanonicTextsAreLiterals : Type 0
CanonicTextsAreLiterals = (s : List ℕ) → is_canonic s ≡ true → is_numeric s ≡ true

-- and stays as it is
abbrev pub CanonicTextsStay : Type 0
CanonicTextsStay = (s : List ℕ) → is_canonic s ≡ true → canonic_of s ≡ s
