-- Literals: what is read of them is spelled so, and what is spelled so is read.
use Rattle.std.proofs.Common.{◌≡◌, inl, inr, ℕ, ◌<◌, Bool, true, false, cond, List, [], ◌∷◌, ◌++◌, length, take, drop, Some, refl, sym, ap, ◌∙◌, append_assoc, arith, length-append}
use Rattle.std.proofs.Math.Numerals.{add-one}
use Rattle.std.proofs.lemmas.Bool.{and_parts, and_from, le-leb, or_parts, or_left, or_from}
use Rattle.std.proofs.lemmas.Bool.Decides.{nat_tests}
use Rattle.std.proofs.lemmas.List.{take-append-drop}
use Rattle.std.proofs.lemmas.List.Folds.{list_all-append}
use Rattle.std.proofs.lemmas.Option.{some_pair_parts, cond_some}
use Rattle.std.specs.Prelude.{not, ◌||◌, ◌==◌}
use Rattle.std.specs.List.{list_all}
use Rattle.std.specs.Char.{is_ascii_digit}
use Rattle.canonic_number.specs.Literal.{is_numeric, canonic_of}
use Rattle.canonic_number.specs.laws.Literal.{literal_is_spelled}
use Rattle.canonic_number.specs.Grammar.{IsDigit, IsDigits, IsSomeDigits, IsUnsignedLiteral, IsNumericLiteral}
use Rattle.canonic_number.specs.Grammar.IsDigits.{nothing, digit}
use Rattle.canonic_number.specs.Grammar.IsSomeDigits.{first_digit}
use Rattle.canonic_number.specs.Grammar.IsUnsignedLiteral.{only_digits, point_first, point_between}
use Rattle.canonic_number.specs.Grammar.IsNumericLiteral.{unsigned, with_minus}
use Rattle.m_text.specs.Reading.{begins_with_byte, parted_at}
use Rattle.m_text.specs.Literal.{ends_number, number_len, numeric_at, part_at, literal_at}
use Rattle.m_text.specs.Forms.{IsParted, IsPart, IsNumber, IsLiteral, goes_on, IsBreak}
use Rattle.m_text.specs.Forms.IsParted.{one, more}
use Rattle.m_text.specs.laws.Front.{Ends, run_is}
use Rattle.m_text.specs.laws.Parted.{Found, parted_found, parted_read}
use Rattle.m_text.specs.laws.Parts.{NoQuote, part_found, part_read, part_some}

-- the bytes of numbers

abbrev number_byte : ℕ → Bool
number_byte b = is_ascii_digit b || b == 46

number_kind : (b : ℕ) → ends_number b ≡ not (number_byte b)
number_kind b = refl

digit_byte : (d : ℕ) → IsDigit d → number_byte d ≡ true
digit_byte d h = or_left (is_ascii_digit d) (d == 46) (and_from _ _ (le-leb 48 d h.low) (le-leb d 57 h.high))

digits_bytes : {ds : List ℕ} → IsDigits ds → list_all number_byte ds ≡ true
digits_bytes nothing = refl
digits_bytes (digit {d} h hs) = and_from _ _ (digit_byte d h) (digits_bytes hs)

some_bytes : {ds : List ℕ} → IsSomeDigits ds → list_all number_byte ds ≡ true
some_bytes (first_digit {d} h hs) = and_from _ _ (digit_byte d h) (digits_bytes hs)

some_more : {ds : List ℕ} → IsSomeDigits ds → 0 < length ds
some_more (first_digit h hs) = omega arith

all_append : (p : ℕ → Bool) (xs ys : List ℕ) → list_all p xs ≡ true → list_all p ys ≡ true → list_all p (xs ++ ys) ≡ true
all_append p xs ys e f = list_all-append p xs ys ∙ and_from _ _ e f

unsigned_bytes : {m : List ℕ} → IsUnsignedLiteral m → list_all number_byte m ≡ true
unsigned_bytes (only_digits h) = some_bytes h
unsigned_bytes (point_first h) = some_bytes h
unsigned_bytes (point_between {w} {f} h k) = all_append number_byte w (46 ∷ f) (some_bytes h) (some_bytes k)

unsigned_some : {m : List ℕ} → IsUnsignedLiteral m → 0 < length m
unsigned_some (only_digits h) = some_more h
unsigned_some (point_first h) = omega arith
unsigned_some (point_between {w} {f} h k) = omega (arith, some_more h, length-append w (46 ∷ f))

not_minus : (b : ℕ) → number_byte b ≡ true → (b == 45) ≡ false
not_minus b e = grind (arith, nat_tests)

abbrev SplitsAt : List ℕ → List ℕ → List ℕ → Type 0
SplitsAt text number rest = (take (number_len text) text ≡ number) × (drop (number_len text) text ≡ rest)

unsigned_split : (m rest : List ℕ) → list_all number_byte m ≡ true → 0 < length m → Ends ends_number rest → SplitsAt (m ++ rest) m rest
unsigned_split [] rest all some ends = absurd (omega arith)
unsigned_split (b ∷ m) rest all some ends =
    let plain = not_minus b (and_parts (number_byte b) _ all).0 in
    let p = run_is ends_number number_byte number_kind (b ∷ m) rest all ends in
    (rw plain p.0, rw plain p.1)

minus_split : (m rest : List ℕ) → list_all number_byte m ≡ true → Ends ends_number rest → SplitsAt (45 ∷ (m ++ rest)) (45 ∷ m) rest
minus_split m rest all ends =
    let p = run_is ends_number number_byte number_kind m rest all ends in
    (rw add-one (ap (λ u. 45 ∷ u) p.0), rw add-one p.1)

number_split : {text : List ℕ} (rest : List ℕ) → IsNumericLiteral text → Ends ends_number rest → SplitsAt (text ++ rest) text rest
number_split rest (unsigned {m} h) ends = unsigned_split m rest (unsigned_bytes h) (unsigned_some h) ends
number_split rest (with_minus {m} h) ends = minus_split m rest (unsigned_bytes h) ends

number_found : (bytes s rest : List ℕ) → numeric_at bytes ≡ Some (s, rest) → Found IsNumber bytes s rest
unfolding numeric_at
number_found bytes s rest e =
    let text : List ℕ = take (number_len bytes) bytes in
    let g = cond_some (is_numeric text) (canonic_of text, drop (number_len bytes) bytes) (s, rest) e in
    let p = some_pair_parts (canonic_of text) s (drop (number_len bytes) bytes) rest (ap (λ (y : List ℕ × List ℕ). Some y) g.1) in
    record { text = text; form = ((literal_is_spelled text).0 g.0, sym p.0); parts = sym (take-append-drop (number_len bytes) bytes) ∙ ap (λ r. text ++ r) p.1 }

number_read : (text s rest : List ℕ) → IsNumber text s → Ends ends_number rest → numeric_at (text ++ rest) ≡ Some (s, rest)
unfolding numeric_at
number_read text s rest form ends =
    let p = number_split rest form.0 ends in
    rw (p.0, p.1, (literal_is_spelled text).1 form.0, form.1) refl

-- literals

abbrev begins_part : List ℕ → Bool
begins_part text = begins_with_byte 34 text || begins_with_byte 36 text

no_part : (b : ℕ) (bs : List ℕ) → number_byte b ≡ true → begins_part (b ∷ bs) ≡ false
no_part b bs e = grind (arith, nat_tests)

number_begins : (text rest : List ℕ) → IsNumericLiteral text → begins_part (text ++ rest) ≡ false
number_begins text rest (unsigned {m} h) = at m (unsigned_some h) (unsigned_bytes h)
  where
    at : (m : List ℕ) → 0 < length m → list_all number_byte m ≡ true → begins_part (m ++ rest) ≡ false
    at [] some all = absurd (omega arith)
    at (b ∷ m) some all = no_part b (m ++ rest) (and_parts (number_byte b) _ all).0
number_begins text rest (with_minus {m} h) = refl

part_begins : (text s rest : List ℕ) → IsPart text s → begins_part (text ++ rest) ≡ true
part_begins text s rest (inl e) = rw e refl
part_begins text s rest (inr c) = rw c.parts refl

parts_begin : (text s rest : List ℕ) → IsParted IsPart 95 text s → begins_part (text ++ rest) ≡ true
parts_begin text s rest (one form) = part_begins text s rest form
parts_begin _ _ rest (more {text} {texts} {x} {xs} form forms) = ap begins_part (append_assoc text (95 ∷ texts) rest) ∙ part_begins text x (95 ∷ (texts ++ rest)) form

parts_found : (bytes s rest : List ℕ) → parted_at part_at 95 bytes ≡ Some (s, rest) → Found (IsParted IsPart 95) bytes s rest
parts_found bytes s rest e = parted_found part_at IsPart 95 part_found bytes s rest e

pub literal_found : (bytes s rest : List ℕ) → literal_at bytes ≡ Some (s, rest) → Found IsLiteral bytes s rest
unfolding literal_at
literal_found bytes s rest e = at (begins_part bytes) e
  where
    at : (t : Bool) → cond t (parted_at part_at 95 bytes) (numeric_at bytes) ≡ Some (s, rest) → Found IsLiteral bytes s rest
    at true e = let f = parts_found bytes s rest e in record { text = f.text; form = inr f.form; parts = f.parts }
    at false e = let f = number_found bytes s rest e in record { text = f.text; form = inl f.form; parts = f.parts }

-- what ends a literal

ends_all : (b : ℕ) → goes_on b ≡ false → (ends_number b ≡ true) × ((b == 34) ≡ false) × ((b == 95) ≡ false)
ends_all b e =
    let p = or_parts (is_ascii_digit b) _ e in
    let q = or_parts (b == 46) _ p.1 in
    let r = or_parts (b == 34) _ q.1 in
    (ap not (or_from (is_ascii_digit b) (b == 46) p.0 q.0), r.0, r.1)

pub break_ends : (rest : List ℕ) → IsBreak rest → Ends ends_number rest × NoQuote rest × (begins_with_byte 95 rest ≡ false)
break_ends [] h = (tt, refl, refl)
break_ends (b ∷ bs) h = ends_all b h

pub literal_read : (text s rest : List ℕ) → IsLiteral text s → IsBreak rest → literal_at (text ++ rest) ≡ Some (s, rest)
unfolding literal_at
literal_read text s rest (inl form) ends = rw (number_begins text rest form.0) (number_read text s rest form (break_ends rest ends).0)
literal_read text s rest (inr form) ends =
    rw (parts_begin text s rest form) (parted_read part_at IsPart 95 NoQuote part_read (λ r. refl) part_some text s rest form (break_ends rest ends).1 (break_ends rest ends).2)

number_some : {text : List ℕ} → IsNumericLiteral text → 0 < length text
number_some (unsigned h) = unsigned_some h
number_some (with_minus h) = omega arith

pub literal_some : (text s : List ℕ) → IsLiteral text s → 0 < length text
literal_some text s (inl form) = number_some form.0
literal_some text s (inr (one form)) = part_some text s form
literal_some text s (inr (more {text = t} {texts} {x} {xs} form forms)) = omega (arith, length-append t (95 ∷ texts))
