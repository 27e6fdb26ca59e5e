-- What is written of strings and references is of the grammar, and so is read again.
use Rattle.std.proofs.Common.{◌≡◌, inl, inr, ℕ, ◌<◌, ◌≤◌, ◌^◌, Bool, true, false, cond, List, [], ◌∷◌, ◌++◌, length, Some, None, Ok, refl, sym, ap, ◌∙◌, arith, rules, decimal}
use Rattle.std.proofs.lemmas.Bool.{and_parts, and_from, leb-true, or_left, or_right}
use Rattle.std.proofs.lemmas.List.{append-nil}
use Rattle.std.specs.Prelude.{◌||◌, ◌==◌, codes, nat_le}
use Rattle.std.specs.Bool.{beq}
use Rattle.std.specs.List.{flat_map, list_all}
use Rattle.std.specs.Char.{is_ascii_digit, is_ascii_alphabetic}
use Rattle.canonic_number.specs.Number.{is_canonic}
use Rattle.canonic_number.specs.laws.Literal.{canonic_is_literal, canonic_stays, literal_is_spelled}
use Rattle.collation.specs.Name.{is_letter_or_digit, is_name}
use Rattle.collation.specs.Reference.{Reference}
use Rattle.collation.specs.Faults.{reference_fault}
use Rattle.m_text.specs.Literal.{number_from, literal_at}
use Rattle.m_text.specs.Place.{ref_fault, without_fault, ref_at}
use Rattle.m_text.specs.Written.{is_plain, quoted, parted, char_text, put_before, runs, run_text, literal_text, subscripts_text, reference_text}
use Rattle.std.proofs.lemmas.Str.Parse.{IsNumeralModel, numerals_by_fold}
use Rattle.std.proofs.lemmas.Fmt.{digits_decimal, digits_value-decimal, length-decimal-le, decimal_nonempty}
use Rattle.m_text.specs.Forms.{IsParted, IsCode, IsChars, IsPart, IsLiteral, IsSubscript, AreSubscripts, IsReference, is_word_byte, IsBreak, IsReferenceBreak, are_bytes}
use Rattle.m_text.specs.Forms.IsParted.{one, more}
use Rattle.m_text.specs.Forms.AreSubscripts.{none, listed}
use Rattle.m_text.specs.laws.Runs.{runs_joined}
use Rattle.m_text.specs.laws.Literal.{literal_read}
use Rattle.m_text.specs.laws.Place.{place_read}

-- texts of things, each a form of what the thing stands for
parted_forms : {A B : Type 0} (Form : List ℕ → List A → Type 0) (b : ℕ) (text : B → List ℕ) (value : B → List A) (good : B → Bool) → ((x : B) → good x ≡ true → Form (text x) (value x)) →
    (x : B) (xs : List B) → list_all good (x ∷ xs) ≡ true → IsParted Form b (parted b text (x ∷ xs)) (flat_map value (x ∷ xs))
parted_forms Form b text value good form x [] all =
    rw (append-nil (text x), append-nil (value x)) (one (form x (and_parts (good x) true all).0))
parted_forms Form b text value good form x (y ∷ ys) all =
    let h = and_parts (good x) _ all in
    more (form x h.0) (parted_forms Form b text value good form y ys h.1)

-- codes

own : IsNumeralModel (λ ds. list_all is_ascii_digit ds ≡ true) (number_from 0)
own = numerals_by_fold _ (search rules) number_from (search rules)

code_form : (b : ℕ) → nat_le b 255 ≡ true → IsCode (decimal b) (b ∷ [])
code_form b e =
    let h : b ≤ 255 = leb-true b 255 e in
    let wide : b < 2 ^ 64 = omega arith in
    record {
      digits = digits_decimal own b wide;
      some = decimal_nonempty b wide;
      few = length-decimal-le 3 b (omega arith) (omega arith) wide;
      small = rw (digits_value-decimal own b wide) h;
      byte = ap (λ (n : ℕ). n ∷ []) (sym (digits_value-decimal own b wide));
    }

singles : (s : List ℕ) → flat_map (λ (b : ℕ). b ∷ []) s ≡ s
singles [] = refl
singles (b ∷ bs) = ap (λ xs. b ∷ xs) (singles bs)

chars_form : (b : ℕ) (bs : List ℕ) → are_bytes (b ∷ bs) ≡ true → IsChars (char_text (b ∷ bs)) (b ∷ bs)
chars_form b bs all = record {
  word = codes "C";
  codes = parted 44 decimal (b ∷ bs);
  named = refl;
  listed = rw (singles (b ∷ bs)) at (parted_forms IsCode 44 decimal (λ (b : ℕ). b ∷ []) (λ b. nat_le b 255) code_form b bs all);
  parts = refl;
}

-- runs

run_form : (r : List ℕ) → are_bytes r ≡ true → IsPart (run_text r) r
run_form [] all = inl refl
run_form (b ∷ bs) all = at (is_plain b)
  where
    at : (t : Bool) → IsPart (cond t (quoted (b ∷ bs)) (char_text (b ∷ bs))) (b ∷ bs)
    at true = inl refl
    at false = inr (chars_form b bs all)

put_bytes : (b : ℕ) (rs : List (List ℕ)) → nat_le b 255 ≡ true → list_all are_bytes rs ≡ true → list_all are_bytes (put_before b rs) ≡ true
put_bytes b [] e all = rw e refl
put_bytes b ([] ∷ rs) e all = rw e all
put_bytes b ((c ∷ r) ∷ rs) e all = at (beq (is_plain b) (is_plain c))
  where
    at : (t : Bool) → list_all are_bytes (cond t ((b ∷ c ∷ r) ∷ rs) ((b ∷ []) ∷ (c ∷ r) ∷ rs)) ≡ true
    at true = rw e all
    at false = rw e all

runs_bytes : (s : List ℕ) → are_bytes s ≡ true → list_all are_bytes (runs s) ≡ true
runs_bytes [] all = refl
runs_bytes (b ∷ bs) all = let h = and_parts (nat_le b 255) _ all in put_bytes b (runs bs) h.0 (runs_bytes bs h.1)

-- there is a run
put_some : (b : ℕ) (rs : List (List ℕ)) → (r : List ℕ) × (more : List (List ℕ)) × (put_before b rs ≡ r ∷ more)
put_some b [] = (b ∷ [], [], refl)
put_some b ([] ∷ rs) = (b ∷ [], [] ∷ rs, refl)
put_some b ((c ∷ r) ∷ rs) = at (beq (is_plain b) (is_plain c))
  where
    at : (t : Bool) → (r' : List ℕ) × (more : List (List ℕ)) × (cond t ((b ∷ c ∷ r) ∷ rs) ((b ∷ []) ∷ (c ∷ r) ∷ rs) ≡ r' ∷ more)
    at true = (b ∷ c ∷ r, rs, refl)
    at false = (b ∷ [], (c ∷ r) ∷ rs, refl)

runs_form : (b : ℕ) (bs : List ℕ) → are_bytes (b ∷ bs) ≡ true → IsParted IsPart 95 (parted 95 run_text (runs (b ∷ bs))) (b ∷ bs)
runs_form b bs all =
    let p = put_some b (runs bs) in
    let bytes : list_all are_bytes (p.0 ∷ p.1) ≡ true = ap (list_all are_bytes) (sym p.2) ∙ runs_bytes (b ∷ bs) all in
    let joined : flat_map (λ (r : List ℕ). r) (p.0 ∷ p.1) ≡ b ∷ bs = ap (flat_map (λ (r : List ℕ). r)) (sym p.2) ∙ runs_joined (b ∷ bs) in
    let forms : IsParted IsPart 95 (parted 95 run_text (p.0 ∷ p.1)) (flat_map (λ (r : List ℕ). r) (p.0 ∷ p.1)) = parted_forms IsPart 95 run_text (λ (r : List ℕ). r) are_bytes run_form p.0 p.1 bytes in
    rw p.2 (rw joined at forms)

-- strings

pub literal_form : (s : List ℕ) → are_bytes s ≡ true → IsLiteral (literal_text s) s
literal_form [] all = inr (one (inl refl))
literal_form (b ∷ bs) all = at (is_canonic (b ∷ bs)) refl
  where
    at : (t : Bool) → is_canonic (b ∷ bs) ≡ t → IsLiteral (cond t (b ∷ bs) (parted 95 run_text (runs (b ∷ bs)))) (b ∷ bs)
    at true e = inl ((literal_is_spelled (b ∷ bs)).0 (canonic_is_literal (b ∷ bs) e), sym (canonic_stays (b ∷ bs) e))
    at false e = inr (runs_form b bs all)

pub literal_again : (s rest : List ℕ) → are_bytes s ≡ true → IsBreak rest → literal_at (literal_text s ++ rest) ≡ Some (s, rest)
literal_again s rest all ends = literal_read (literal_text s) s rest (literal_form s all) ends

-- references

subscript_form : (s : List ℕ) → are_bytes s ≡ true → IsSubscript (literal_text s) (s ∷ [])
subscript_form s all = record { string = s; literal = literal_form s all; alone = refl }

alone_joined : (ss : List (List ℕ)) → flat_map (λ (s : List ℕ). s ∷ []) ss ≡ ss
alone_joined [] = refl
alone_joined (s ∷ ss) = ap (λ xs. s ∷ xs) (alone_joined ss)

subscripts_form : (ss : List (List ℕ)) → list_all are_bytes ss ≡ true → AreSubscripts (subscripts_text ss) ss
subscripts_form [] all = none
subscripts_form (s ∷ ss) all = listed (rw (alone_joined (s ∷ ss)) at (parted_forms IsSubscript 44 literal_text (λ (s : List ℕ). s ∷ []) are_bytes subscript_form s ss all))

word_bytes : (xs : List ℕ) → list_all is_letter_or_digit xs ≡ true → list_all is_word_byte xs ≡ true
word_bytes [] e = refl
word_bytes (x ∷ xs) e = let h = and_parts (is_letter_or_digit x) _ e in and_from _ _ (or_left (is_letter_or_digit x) (x == 37) h.0) (word_bytes xs h.1)

first_byte : (b : ℕ) → ((b == 37) || is_ascii_alphabetic b) ≡ true → is_word_byte b ≡ true
first_byte b e = at (b == 37) (is_ascii_alphabetic b) (is_ascii_digit b) e
  where
    at : (t u v : Bool) → (t || u) ≡ true → ((u || v) || t) ≡ true
    at true u v e = or_right (u || v) true refl
    at false true v e = refl
    at false false v e = absurd cc

name_form : (name : List ℕ) → is_name name ≡ true → (list_all is_word_byte name ≡ true) × (0 < length name)
name_form [] e = absurd cc
name_form (b ∷ bs) e =
    let h = and_parts (b == 37 || is_ascii_alphabetic b) _ e in
    let k = and_parts (list_all is_letter_or_digit bs) _ h.1 in
    (and_from _ _ (first_byte b h.0) (word_bytes bs k.0), omega arith)

pub reference_form : (r : Reference) → is_name r.name ≡ true → list_all are_bytes r.subscripts ≡ true → IsReference (reference_text r) r
reference_form r name all = record {
  named = r.name ++ subscripts_text r.subscripts;
  spelled = record { texts = subscripts_text r.subscripts; word = (name_form r.name name).0; some = (name_form r.name name).1; subscripts = subscripts_form r.subscripts all; parts = refl };
  parts = refl;
}

pub reference_again : (r : Reference) (rest : List ℕ) → is_name r.name ≡ true → reference_fault r.subscripts ≡ None → list_all are_bytes r.subscripts ≡ true → IsReferenceBreak rest →
    ref_at (reference_text r ++ rest) ≡ Ok (r, rest)
reference_again r rest name good all ends =
    ap (without_fault ref_fault) (place_read (reference_text r) r rest (reference_form r name all) ends) ∙ rw (name, good) refl
