-- Cutting the first line off a text.
use Rattle.std.proofs.Common.{◌≡◌, inl, inr, ℕ, zero, suc, ◌+◌, ◌-◌, ◌≤◌, ◌<◌, true, false, eqb, List, [], ◌∷◌, ◌++◌, length, take, drop, get_or, refl, sym, ap, ◌∙◌, append_assoc, arith}
use Rattle.std.proofs.lemmas.Bool.{false_from_ne_true}
use Rattle.std.proofs.lemmas.List.{append-nil}
use Rattle.std.specs.Prelude.{Some, None}
use Rattle.bstr.specs.Find.{IsFirstByte, is_byte}
use Rattle.std.specs.Io.BufRead.{strip_last}
use Rattle.loading.specs.Lines.{lines_from, all_lines}
use Rattle.loading.specs.Settings.{with_line, asked_from}
use Rattle.loading.specs.Loaded.{IsFirstLine}
use Rattle.loading.specs.laws.Lines.{has_no_end, last_line}

-- the first byte 10 stands at n
abbrev EndsAt : List ℕ → ℕ → Type 0
EndsAt [] n = ⊥
EndsAt (b ∷ bs) zero = eqb b 10 ≡ true
EndsAt (b ∷ bs) (suc n) = (eqb b 10 ≡ false) × EndsAt bs n

ends_at : (xs : List ℕ) (n : ℕ) → n < length xs → ((k : ℕ) → 0 ≤ k → k < n → eqb (get_or xs k 0) 10 ≡ true → ⊥) → eqb (get_or xs n 0) 10 ≡ true → EndsAt xs n
ends_at [] n lt before at = absurd (omega arith)
ends_at (b ∷ bs) zero lt before at = at
ends_at (b ∷ bs) (suc n) lt before at = (false_from_ne_true _ (before 0 (omega arith) (omega arith)), ends_at bs n (omega arith) (λ k low high. before (suc k) (omega arith) (omega arith)) at)

first_from : (line xs : List ℕ) (n : ℕ) → EndsAt xs n → lines_from line xs ≡ strip_last 13 (line ++ take n xs) ∷ all_lines (drop (suc n) xs)
first_from line [] n h = absurd h
first_from line (b ∷ bs) zero h = rw h (ap (λ (l : List ℕ). strip_last 13 l ∷ all_lines bs) (sym (append-nil line)))
first_from line (b ∷ bs) (suc n) h = rw h.0 (first_from (line ++ b ∷ []) bs n h.1 ∙ ap (λ (l : List ℕ). strip_last 13 l ∷ all_lines (drop (suc n) bs)) (append_assoc line (b ∷ []) (take n bs)))

no_end : (xs : List ℕ) → ((k : ℕ) → 0 ≤ k → k < length xs → eqb (get_or xs k 0) 10 ≡ true → ⊥) → has_no_end xs ≡ true
no_end [] h = refl
no_end (b ∷ bs) h = rw (false_from_ne_true _ (h 0 (omega arith) (omega arith))) (no_end bs (λ k low high. h (suc k) (omega arith) (omega arith)))

-- a line ends at n
pub first_ended : (text line : List ℕ) (n : ℕ) → IsFirstByte (is_byte 10) text (Some n) → line ≡ strip_last 13 (take n text) → IsFirstLine text line (drop (n + 1) text)
first_ended text line n h is = let more : n + 1 ≡ suc n = omega arith in inl (rw (more, is) (first_from [] text n (ends_at text n h.0.high (λ k low high p. h.0.before k low high p) h.1)))

-- no line ends
pub first_unended : (text : List ℕ) → IsFirstByte (is_byte 10) text None → IsFirstLine text text []
first_unended text h = inr (last_line text (no_end text (λ k low high p. h k low high p)), refl)

-- nothing follows a whole text
pub none_left : (text : List ℕ) → take (length text - length text) (drop (length text) text) ≡ []
none_left text = let none : length text - length text ≡ 0 = omega arith in rw none refl

-- what a text asks for is what its first line asks for, before what the others do
pub first_asks : (number : ℕ) (text line rest : List ℕ) → IsFirstLine text line rest → asked_from number (all_lines text) ≡ with_line number line (asked_from (number + 1) (all_lines rest))
first_asks number text line rest (inl is) = ap (asked_from number) is
first_asks number text line rest (inr is) = ap (asked_from number) is.0 ∙ ap (λ (l : List ℕ). with_line number line (asked_from (number + 1) (all_lines l))) (sym is.1)
