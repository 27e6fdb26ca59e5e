-- Lines of a text, and those of lines that are plain.
use Rattle.std.proofs.Common.{◌≡◌, ℕ, zero, suc, ◌-◌, ◌<◌, Bool, true, false, eqb, List, [], ◌∷◌, ◌++◌, length, get_or, not, ◌&&◌, refl, sym, ap, ◌∙◌, append_assoc, arith, map}
use Rattle.std.proofs.lemmas.Bool.{and_parts, and_from}
use Rattle.std.proofs.lemmas.Bool.Decides.{nat_tests}
use Rattle.std.proofs.lemmas.List.{append-nil}
use Rattle.std.specs.Prelude.{nat_lt, ◌==◌}
use Rattle.std.specs.List.{list_all, flat_map}
use Rattle.std.specs.Io.BufRead.{strip_last, ends_with_byte}
use Rattle.m_text.specs.Written.{is_plain}
use Rattle.loading.specs.Lines.{lines_from, all_lines}
use Rattle.loading.specs.laws.Plain.{are_plain}

-- no byte 10
abbrev pub has_no_end : List ℕ → Bool
has_no_end text = list_all (λ b. not (b == 10)) text

pub goes_on : (b : ℕ) (bs : List ℕ) → has_no_end (b ∷ bs) ≡ true → (eqb b 10 ≡ false) × (has_no_end bs ≡ true)
goes_on b bs h = elim (eqb b 10) as (λ t. (not t && has_no_end bs) ≡ true → (t ≡ false) × (has_no_end bs ≡ true)) [ true ↦ λ e. absurd cc | false ↦ λ e. (refl, e) ] h

last_from : (line xs : List ℕ) → has_no_end xs ≡ true → lines_from line xs ≡ (line ++ xs) ∷ []
last_from line [] h = ap (λ (l : List ℕ). l ∷ []) (sym (append-nil line))
last_from line (b ∷ bs) h = let p = goes_on b bs h in rw p.0 (last_from (line ++ b ∷ []) bs p.1 ∙ ap (λ (l : List ℕ). l ∷ []) (append_assoc line (b ∷ []) bs))

-- a line without an end
pub last_line : (xs : List ℕ) → has_no_end xs ≡ true → all_lines xs ≡ xs ∷ []
last_line xs h = last_from [] xs h

ended_from : (line xs more : List ℕ) → has_no_end xs ≡ true → lines_from line (xs ++ 10 ∷ more) ≡ strip_last 13 (line ++ xs) ∷ all_lines more
ended_from line [] more h = ap (λ (l : List ℕ). strip_last 13 l ∷ all_lines more) (sym (append-nil line))
ended_from line (b ∷ bs) more h =
    let p = goes_on b bs h in
    rw p.0 (ended_from (line ++ b ∷ []) bs more p.1 ∙ ap (λ (l : List ℕ). strip_last 13 l ∷ all_lines more) (append_assoc line (b ∷ []) bs))

-- a line and its end
pub ended_line : (xs more : List ℕ) → has_no_end xs ≡ true → all_lines (xs ++ 10 ∷ more) ≡ strip_last 13 xs ∷ all_lines more
ended_line xs more h = ended_from [] xs more h

-- plain bytes are no ends

plain_goes_on : (b : ℕ) → is_plain b ≡ true → not (b == 10) ≡ true
plain_goes_on b e = grind (arith, nat_tests)

plain_no_return : (b : ℕ) → is_plain b ≡ true → (b == 13) ≡ false
plain_no_return b e = grind (arith, nat_tests)

plain_no_end : (xs : List ℕ) → are_plain xs ≡ true → has_no_end xs ≡ true
plain_no_end [] e = refl
plain_no_end (b ∷ bs) e = let p = and_parts (is_plain b) _ e in and_from _ _ (plain_goes_on b p.0) (plain_no_end bs p.1)

plain_at : (xs : List ℕ) (i : ℕ) → i < length xs → are_plain xs ≡ true → is_plain (get_or xs i 0) ≡ true
plain_at [] i lt e = absurd (omega (arith, lt))
plain_at (b ∷ bs) zero lt e = (and_parts (is_plain b) _ e).0
plain_at (b ∷ bs) (suc i) lt e = plain_at bs i (omega (arith, lt)) (and_parts (is_plain b) _ e).1

neither : (a b : Bool) → b ≡ false → (a && b) ≡ false
neither true b e = e
neither false b e = refl

ends_plain : (xs : List ℕ) → are_plain xs ≡ true → ends_with_byte 13 xs ≡ false
ends_plain [] e = refl
ends_plain (b ∷ bs) e = neither (nat_lt 0 (length (b ∷ bs))) _ (plain_no_return (get_or (b ∷ bs) (length (b ∷ bs) - 1) 0) (plain_at (b ∷ bs) (length (b ∷ bs) - 1) (omega arith) e))

-- a plain line stands as it is
pub plain_stays : (xs : List ℕ) → are_plain xs ≡ true → strip_last 13 xs ≡ xs
plain_stays xs e = rw (ends_plain xs e) refl

-- the lines of texts that are plain, each with its end
pub plain_lines : {A : Type 0} (text : A → List ℕ) (good : A → Bool) → ((x : A) → good x ≡ true → are_plain (text x) ≡ true) →
    (xs : List A) → list_all good xs ≡ true → all_lines (flat_map (λ x. text x ++ 10 ∷ []) xs) ≡ map text xs ++ ([] ∷ [])
plain_lines text good each [] all = refl
plain_lines text good each (x ∷ xs) all =
    let p = and_parts (good x) _ all in
    let plain = each x p.0 in
    let rest : List ℕ = flat_map (λ x. text x ++ 10 ∷ []) xs in
    ap all_lines (append_assoc (text x) (10 ∷ []) rest)
    ∙ ended_line (text x) rest (plain_no_end (text x) plain)
    ∙ ap (λ (l : List ℕ). l ∷ all_lines rest) (plain_stays (text x) plain)
    ∙ ap (λ (ls : List (List ℕ)). text x ∷ ls) (plain_lines text good each xs p.1)
