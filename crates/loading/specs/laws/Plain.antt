-- What is written of references and values is of bytes 32 to 126.
use Rattle.std.proofs.Common.{◌≡◌, ℕ, ◌<◌, ◌≤◌, ◌^◌, Bool, true, false, cond, List, [], ◌∷◌, ◌++◌, refl, sym, ap, ◌∙◌, arith, rules, decimal}
use Rattle.std.proofs.lemmas.Bool.{and_parts, and_from, leb-true, le-leb}
use Rattle.std.proofs.lemmas.Bool.Decides.{nat_tests}
use Rattle.std.proofs.lemmas.List.Folds.{list_all-append}
use Rattle.std.proofs.lemmas.Str.Parse.{IsNumeralModel, numerals_by_fold}
use Rattle.std.proofs.lemmas.Fmt.{digits_decimal}
use Rattle.std.specs.Prelude.{nat_le, ◌||◌, ◌==◌}
use Rattle.std.specs.Bool.{beq}
use Rattle.std.specs.List.{flat_map, list_all}
use Rattle.std.specs.Char.{is_ascii_digit, is_ascii_alphabetic}
use Rattle.canonic_number.specs.Number.{is_canonic}
use Rattle.canonic_number.specs.Grammar.{IsDigit, IsDigits, IsSomeDigits, IsUnsignedLiteral, IsNumericLiteral}
use Rattle.canonic_number.specs.Grammar.IsDigits.{nothing, digit}
use Rattle.canonic_number.specs.Grammar.IsSomeDigits.{first_digit}
use Rattle.canonic_number.specs.Grammar.IsUnsignedLiteral.{only_digits, point_first, point_between}
use Rattle.canonic_number.specs.Grammar.IsNumericLiteral.{unsigned, with_minus}
use Rattle.canonic_number.specs.laws.Literal.{canonic_is_literal, literal_is_spelled}
use Rattle.collation.specs.Name.{is_letter_or_digit, is_name}
use Rattle.collation.specs.Reference.{Reference}
use Rattle.m_text.specs.Literal.{number_from}
use Rattle.m_text.specs.Written.{is_plain, doubled, quoted, parted, char_text, runs, run_text, literal_text, subscripts_text, reference_text}
use Rattle.m_text.specs.Forms.{are_bytes}
use Rattle.m_text.specs.Statements.{IsOfOneKind, AreRuns}
use Rattle.m_text.specs.laws.Runs.{runs_are_runs, runs_joined}

abbrev pub are_plain : List ℕ → Bool
are_plain text = list_all is_plain text

pub both : (xs ys : List ℕ) → are_plain xs ≡ true → are_plain ys ≡ true → are_plain (xs ++ ys) ≡ true
both xs ys e f = list_all-append is_plain xs ys ∙ and_from _ _ e f

-- numbers

digit_plain : (d : ℕ) → IsDigit d → is_plain d ≡ true
digit_plain d h = and_from _ _ (le-leb 32 d (omega (arith, h.low))) (le-leb d 126 (omega (arith, h.high)))

digits_plain : {ds : List ℕ} → IsDigits ds → are_plain ds ≡ true
digits_plain nothing = refl
digits_plain (digit {d} h hs) = and_from _ _ (digit_plain d h) (digits_plain hs)

some_plain : {ds : List ℕ} → IsSomeDigits ds → are_plain ds ≡ true
some_plain (first_digit {d} h hs) = and_from _ _ (digit_plain d h) (digits_plain hs)

unsigned_plain : {m : List ℕ} → IsUnsignedLiteral m → are_plain m ≡ true
unsigned_plain (only_digits h) = some_plain h
unsigned_plain (point_first h) = some_plain h
unsigned_plain (point_between {w} {f} h k) = both w (46 ∷ f) (some_plain h) (some_plain k)

pub number_plain : {text : List ℕ} → IsNumericLiteral text → are_plain text ≡ true
number_plain (unsigned h) = unsigned_plain h
number_plain (with_minus h) = unsigned_plain h

-- codes

own : IsNumeralModel (λ ds. list_all is_ascii_digit ds ≡ true) (number_from 0)
own = numerals_by_fold _ (search rules) number_from (search rules)

ascii_digit_plain : (d : ℕ) → is_ascii_digit d ≡ true → is_plain d ≡ true
ascii_digit_plain d e = grind (arith, nat_tests)

all_digits_plain : (ds : List ℕ) → list_all is_ascii_digit ds ≡ true → are_plain ds ≡ true
all_digits_plain [] e = refl
all_digits_plain (d ∷ ds) e = let p = and_parts (is_ascii_digit d) _ e in and_from _ _ (ascii_digit_plain d p.0) (all_digits_plain ds p.1)

code_plain : (b : ℕ) → nat_le b 255 ≡ true → are_plain (decimal b) ≡ true
code_plain b e =
    let h : b ≤ 255 = leb-true b 255 e in
    let wide : b < 2 ^ 64 = omega arith in
    all_digits_plain (decimal b) (digits_decimal own b wide)

-- things with a plain byte between two

more_plain : {A : Type 0} (b : ℕ) (text : A → List ℕ) (good : A → Bool) → is_plain b ≡ true → ((x : A) → good x ≡ true → are_plain (text x) ≡ true) →
    (xs : List A) → list_all good xs ≡ true → are_plain (flat_map (λ y. b ∷ text y) xs) ≡ true
more_plain b text good plain each [] all = refl
more_plain b text good plain each (x ∷ xs) all =
    let p = and_parts (good x) _ all in
    both (b ∷ text x) (flat_map (λ y. b ∷ text y) xs) (and_from _ _ plain (each x p.0)) (more_plain b text good plain each xs p.1)

parted_plain : {A : Type 0} (b : ℕ) (text : A → List ℕ) (good : A → Bool) → is_plain b ≡ true → ((x : A) → good x ≡ true → are_plain (text x) ≡ true) →
    (xs : List A) → list_all good xs ≡ true → are_plain (parted b text xs) ≡ true
parted_plain b text good plain each [] all = refl
parted_plain b text good plain each (x ∷ xs) all =
    let p = and_parts (good x) _ all in
    both (text x) (flat_map (λ y. b ∷ text y) xs) (each x p.0) (more_plain b text good plain each xs p.1)

-- runs

doubled_plain : (b : ℕ) → is_plain b ≡ true → are_plain (doubled b) ≡ true
doubled_plain b e = at (b == 34)
  where
    at : (t : Bool) → are_plain (cond t (34 ∷ 34 ∷ []) (b ∷ [])) ≡ true
    at true = refl
    at false = and_from _ _ e refl

all_doubled_plain : (bs : List ℕ) → are_plain bs ≡ true → are_plain (flat_map doubled bs) ≡ true
all_doubled_plain [] e = refl
all_doubled_plain (b ∷ bs) e = let p = and_parts (is_plain b) _ e in both (doubled b) (flat_map doubled bs) (doubled_plain b p.0) (all_doubled_plain bs p.1)

quoted_plain : (bs : List ℕ) → are_plain bs ≡ true → are_plain (quoted bs) ≡ true
quoted_plain bs e = both (flat_map doubled bs) (34 ∷ []) (all_doubled_plain bs e) refl

chars_plain : (bs : List ℕ) → are_bytes bs ≡ true → are_plain (char_text bs) ≡ true
chars_plain bs e = both (parted 44 decimal bs) (41 ∷ []) (parted_plain 44 decimal (λ b. nat_le b 255) refl code_plain bs e) refl

kind_plain : (b c : ℕ) → is_plain c ≡ true → beq (is_plain b) (is_plain c) ≡ true → is_plain b ≡ true
kind_plain b c e f = at (is_plain b) (is_plain c) e f
  where
    at : (t u : Bool) → u ≡ true → beq t u ≡ true → t ≡ true
    at true u e f = refl
    at false true e f = absurd cc
    at false false e f = absurd cc

one_kind_plain : (c : ℕ) (bs : List ℕ) → is_plain c ≡ true → list_all (λ b. beq (is_plain b) (is_plain c)) bs ≡ true → are_plain bs ≡ true
one_kind_plain c [] e all = refl
one_kind_plain c (b ∷ bs) e all =
    let p = and_parts (beq (is_plain b) (is_plain c)) _ all in
    and_from _ _ (kind_plain b c e p.0) (one_kind_plain c bs e p.1)

run_plain : (r : List ℕ) → IsOfOneKind r → are_bytes r ≡ true → are_plain (run_text r) ≡ true
run_plain [] kind e = absurd kind
run_plain (b ∷ bs) kind e = at (is_plain b) refl
  where
    at : (t : Bool) → is_plain b ≡ t → are_plain (cond t (quoted (b ∷ bs)) (char_text (b ∷ bs))) ≡ true
    at true f = quoted_plain (b ∷ bs) (and_from _ _ f (one_kind_plain b bs f kind))
    at false f = chars_plain (b ∷ bs) e

-- a run is written plain
abbrev is_written_plain : List ℕ → Bool
is_written_plain r = are_plain (run_text r)

runs_plain : (rs : List (List ℕ)) → AreRuns rs → are_bytes (flat_map (λ (r : List ℕ). r) rs) ≡ true → list_all is_written_plain rs ≡ true
runs_plain [] kinds e = refl
runs_plain (r ∷ []) kinds e = let p = and_parts (are_bytes r) _ (sym (list_all-append (λ b. nat_le b 255) r []) ∙ e) in and_from _ _ (run_plain r kinds p.0) refl
runs_plain (r ∷ q ∷ rs) kinds e =
    let p = and_parts (are_bytes r) _ (sym (list_all-append (λ b. nat_le b 255) r (flat_map (λ (r : List ℕ). r) (q ∷ rs))) ∙ e) in
    and_from _ _ (run_plain r kinds.0 p.0) (runs_plain (q ∷ rs) kinds.2 p.1)

pub literal_plain : (s : List ℕ) → are_bytes s ≡ true → are_plain (literal_text s) ≡ true
literal_plain [] e = refl
literal_plain (b ∷ bs) e = at (is_canonic (b ∷ bs)) refl
  where
    at : (t : Bool) → is_canonic (b ∷ bs) ≡ t → are_plain (cond t (b ∷ bs) (parted 95 run_text (runs (b ∷ bs)))) ≡ true
    at true f = number_plain ((literal_is_spelled (b ∷ bs)).0 (canonic_is_literal (b ∷ bs) f))
    at false f = parted_plain 95 run_text is_written_plain refl (λ r h. h) (runs (b ∷ bs)) (runs_plain (runs (b ∷ bs)) (runs_are_runs (b ∷ bs)) (ap are_bytes (runs_joined (b ∷ bs)) ∙ e))

-- references

letter_plain : (b : ℕ) → is_letter_or_digit b ≡ true → is_plain b ≡ true
letter_plain b e = grind (arith, nat_tests)

letters_plain : (bs : List ℕ) → list_all is_letter_or_digit bs ≡ true → are_plain bs ≡ true
letters_plain [] e = refl
letters_plain (b ∷ bs) e = let p = and_parts (is_letter_or_digit b) _ e in and_from _ _ (letter_plain b p.0) (letters_plain bs p.1)

first_plain : (b : ℕ) → (b == 37 || is_ascii_alphabetic b) ≡ true → is_plain b ≡ true
first_plain b e = grind (arith, nat_tests)

name_plain : (name : List ℕ) → is_name name ≡ true → are_plain name ≡ true
name_plain [] e = refl
name_plain (b ∷ bs) e =
    let p = and_parts (b == 37 || is_ascii_alphabetic b) _ e in
    and_from _ _ (first_plain b p.0) (letters_plain bs (and_parts (list_all is_letter_or_digit bs) _ p.1).0)

subscripts_plain : (ss : List (List ℕ)) → list_all are_bytes ss ≡ true → are_plain (subscripts_text ss) ≡ true
subscripts_plain [] e = refl
subscripts_plain (s ∷ ss) e = both (parted 44 literal_text (s ∷ ss)) (41 ∷ []) (parted_plain 44 literal_text are_bytes refl literal_plain (s ∷ ss) e) refl

pub reference_plain : (r : Reference) → is_name r.name ≡ true → list_all are_bytes r.subscripts ≡ true → are_plain (reference_text r) ≡ true
reference_plain r name e = both r.name (subscripts_text r.subscripts) (name_plain r.name name) (subscripts_plain r.subscripts e)
