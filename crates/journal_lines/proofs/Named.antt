-- A caret and a name in quotes are the literal of that string, and what is written behind what was there.
use Rattle.std.proofs.Common.{◌≡◌, ℕ, Bool, true, false, cond, List, [], ◌∷◌, ◌++◌, refl, sym, ap, ◌∙◌, append-nil, append_assoc, arith, length}
use Rattle.std.proofs.lemmas.Bool.{and_parts, and_from}
use Rattle.std.proofs.lemmas.Bool.Decides.{nat_tests}
use Rattle.std.specs.Prelude.{not, ◌&&◌, ◌||◌, ◌==◌}
use Rattle.std.specs.Bool.{beq}
use Rattle.std.specs.List.{flat_map, list_all}
use Rattle.std.specs.Char.{is_ascii_alphabetic, is_ascii_digit}
use Rattle.canonic_number.specs.Number.{is_canonic, is_magnitude, is_whole, whole_part, fraction_part}
use Rattle.canonic_number.specs.Place.{with_point}
use Rattle.canonic_number.specs.laws.Canonic.{split}
use Rattle.collation.specs.Name.{is_letter_or_digit, is_name}
use Rattle.m_text.specs.Written.{is_plain, doubled, quoted, put_before, runs, run_text, parted, literal_text}

-- a byte that stands in quotes as it is
abbrev is_quotable : ℕ → Bool
is_quotable b = is_plain b && not (b == 34)

letter_quotable : (b : ℕ) → is_letter_or_digit b ≡ true → is_quotable b ≡ true
letter_quotable b e = grind (arith, nat_tests)

first_quotable : (b : ℕ) → (b == 37 || is_ascii_alphabetic b) ≡ true → is_quotable b ≡ true
first_quotable b e = grind (arith, nat_tests)

letters_quotable : (bs : List ℕ) → list_all is_letter_or_digit bs ≡ true → list_all is_quotable bs ≡ true
letters_quotable [] e = refl
letters_quotable (b ∷ bs) e =
    let p = and_parts (is_letter_or_digit b) _ e in
    and_from _ _ (letter_quotable b p.0) (letters_quotable bs p.1)

name_quotable : (name : List ℕ) → is_name name ≡ true → list_all is_quotable name ≡ true
name_quotable [] e = refl
name_quotable (b ∷ bs) e =
    let p = and_parts (b == 37 || is_ascii_alphabetic b) _ e in
    and_from _ _ (first_quotable b p.0) (letters_quotable bs (and_parts (list_all is_letter_or_digit bs) _ p.1).0)

both_so : {A : Type 0} (x y : Bool) (a b : A) → x ≡ true → y ≡ true → cond (beq x y) a b ≡ a
both_so true true a b e f = refl
both_so true false a b e f = absurd (cc)
both_so false y a b e f = absurd (cc)

-- such bytes are one run
one_run : (b : ℕ) (bs : List ℕ) → list_all is_quotable (b ∷ bs) ≡ true → runs (b ∷ bs) ≡ (b ∷ bs) ∷ []
one_run b [] all = refl
one_run b (c ∷ bs) all =
    let p = and_parts (is_quotable b) _ all in
    let q = and_parts (is_quotable c) _ p.1 in
    ap (put_before b) (one_run c bs p.1) ∙ both_so (is_plain b) (is_plain c) _ _ (and_parts (is_plain b) _ p.0).0 (and_parts (is_plain c) _ q.0).0

once : (t : Bool) (b : ℕ) → not t ≡ true → cond t (34 ∷ 34 ∷ []) (b ∷ []) ≡ b ∷ []
once true b e = absurd (cc)
once false b e = refl

-- and none of them is doubled
undoubled : (bs : List ℕ) → list_all is_quotable bs ≡ true → flat_map doubled bs ≡ bs
undoubled [] all = refl
undoubled (b ∷ bs) all =
    let p = and_parts (is_quotable b) _ all in
    ap (λ u. u ++ flat_map doubled bs) (once (b == 34) b (and_parts (is_plain b) _ p.0).1) ∙ ap (λ u. b ∷ u) (undoubled bs p.1)

abbrev first_of : List ℕ → ℕ
first_of [] = 0
first_of (b ∷ bs) = b

-- digits, a point and digits don't begin with a caret
no_caret : (w f bs : List ℕ) → 94 ∷ bs ≡ w ++ with_point f → list_all is_ascii_digit w ≡ true → ◌≡◌ {A = Bool} true false
no_caret [] [] bs e digits = ap (λ t. first_of t == 94) e
no_caret [] (d ∷ f) bs e digits = ap (λ t. first_of t == 94) e
no_caret (d ∷ w) f bs e digits = sym (ap (λ t. is_ascii_digit (first_of t)) e ∙ (and_parts (is_ascii_digit d) _ digits).0)

no_number : (n : List ℕ) → is_canonic (94 ∷ n) ≡ false
no_number [] = refl
no_number (b ∷ bs) = at (is_magnitude (94 ∷ b ∷ bs)) refl
  where
    m : List ℕ
    m = 94 ∷ b ∷ bs

    at : (t : Bool) → is_magnitude m ≡ t → t ≡ false
    at true e = no_caret (whole_part m) (fraction_part m) (b ∷ bs) (split m e) (and_parts (list_all is_ascii_digit (whole_part m)) _ (and_parts (is_whole (whole_part m)) _ (and_parts (not (length m == 0)) _ e).1).0).0
    at false e = refl

-- the literal of a caret and a name
pub name_literal : (n : List ℕ) → is_name n ≡ true → literal_text (94 ∷ n) ≡ 34 ∷ 94 ∷ (n ++ 34 ∷ [])
name_literal n is =
    let all = name_quotable n is in
    ap (λ t. cond t (94 ∷ n) (parted 95 run_text (runs (94 ∷ n)))) (no_number n)
    ∙ ap (parted 95 run_text) (one_run 94 n all)
    ∙ append-nil (quoted (94 ∷ n))
    ∙ ap (λ u. 34 ∷ 94 ∷ (u ++ 34 ∷ [])) (undoubled n all)

-- two texts, then a third, behind what was there
pub behind_two : (old a b c : List ℕ) → ((old ++ a) ++ b) ++ c ≡ old ++ (a ++ (b ++ c))
behind_two old a b c = append_assoc (old ++ a) b c ∙ append_assoc old a (b ++ c)

-- and five
pub behind_five : (old a b c d e : List ℕ) → ((((old ++ a) ++ b) ++ c) ++ d) ++ e ≡ old ++ (a ++ (b ++ (c ++ (d ++ e))))
behind_five old a b c d e = behind_two ((old ++ a) ++ b) c d e ∙ behind_two old a b (c ++ (d ++ e))
