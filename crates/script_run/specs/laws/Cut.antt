-- Cutting a text into lines.
use Rattle.std.proofs.Common.{◌≡◌, ℕ, zero, suc, ◌≤◌, ◌<◌, true, false, eqb, List, [], ◌∷◌, ◌++◌, length, take, drop, get_or, inl, inr, refl, sym, ap, subst, ◌∙◌, append_assoc, arith}
use Rattle.std.proofs.lemmas.Bool.{false_from_ne_true, eqb-true}
use Rattle.std.proofs.lemmas.List.{append-nil}
use Rattle.std.specs.Prelude.{Some}
use Rattle.bstr.specs.Find.{IsFirstByte, is_byte}
use Rattle.std.specs.Io.BufRead.{strip_last}
use Rattle.script_run.specs.Lines.{nonempty_line, lines_from, lines_of, has_no_end, EndsALine, AreLinesBefore}
use Rattle.script_run.specs.laws.Lines.{goes_on}

-- the first byte 10 stands at n
abbrev pub EndsAt : List ℕ → ℕ → Type 0
EndsAt [] n = ⊥
EndsAt (b ∷ bs) zero = eqb b 10 ≡ true
EndsAt (b ∷ bs) (suc n) = (eqb b 10 ≡ false) × EndsAt bs n

pub ends_at : (xs : List ℕ) (n : ℕ) → n < length xs → ((k : ℕ) → 0 ≤ k → k < n → eqb (get_or xs k 0) 10 ≡ true → ⊥) → eqb (get_or xs n 0) 10 ≡ true → EndsAt xs n
ends_at [] n lt before at = absurd (omega arith)
ends_at (b ∷ bs) zero lt before at = at
ends_at (b ∷ bs) (suc n) lt before at = (false_from_ne_true _ (before 0 (omega arith) (omega arith)), ends_at bs n (omega arith) (λ k low high. before (suc k) (omega arith) (omega arith)) at)

first_from : (line xs more : List ℕ) (n : ℕ) → EndsAt xs n → lines_from line (xs ++ more) ≡ nonempty_line (strip_last 13 (line ++ take n xs)) ++ lines_of (drop (suc n) xs ++ more)
first_from line [] more n h = absurd h
first_from line (b ∷ bs) more zero h = rw h (ap (λ (l : List ℕ). nonempty_line (strip_last 13 l) ++ lines_of (bs ++ more)) (sym (append-nil line)))
first_from line (b ∷ bs) more (suc n) h = rw h.0 (first_from (line ++ b ∷ []) bs more n h.1 ∙ ap (λ (l : List ℕ). nonempty_line (strip_last 13 l) ++ lines_of (drop (suc n) bs ++ more)) (append_assoc line (b ∷ []) (take n bs)))

-- the first line, and the lines of what follows its end
pub first_line : (xs more : List ℕ) (n : ℕ) → EndsAt xs n → lines_of (xs ++ more) ≡ nonempty_line (strip_last 13 (take n xs)) ++ lines_of (drop (suc n) xs ++ more)
first_line xs more n h = first_from [] xs more n h

-- the first line with its end, and what follows
line_and_rest : (xs : List ℕ) (n : ℕ) → EndsAt xs n → xs ≡ take n xs ++ (10 ∷ drop (suc n) xs)
line_and_rest [] n h = absurd h
line_and_rest (b ∷ bs) zero h = ap (λ (x : ℕ). x ∷ bs) (eqb-true b 10 h)
line_and_rest (b ∷ bs) (suc n) h = ap (λ (t : List ℕ). b ∷ t) (line_and_rest bs n h.1)

-- nothing stands before the whole
pub none_before : (text : List ℕ) → AreLinesBefore text text
none_before text = record { front = []; ends = inl refl; is = refl }

-- a line that had begun, and ends in the next piece, is whole
pub line_before : (begun xs : List ℕ) (n : ℕ) → EndsAt xs n → AreLinesBefore (drop (suc n) xs) (begun ++ xs)
line_before begun xs n h = record {
  front = (begun ++ take n xs) ++ 10 ∷ [];
  ends = inr (begun ++ take n xs, refl);
  is = ap (λ (t : List ℕ). begun ++ t) (line_and_rest xs n h) ∙ sym (append_assoc begun (take n xs) (10 ∷ drop (suc n) xs)) ∙ sym (append_assoc (begun ++ take n xs) (10 ∷ []) (drop (suc n) xs));
}

joined_ends : (xs ys : List ℕ) → EndsALine xs → EndsALine ys → EndsALine (xs ++ ys)
joined_ends xs ys x (inl none) = subst EndsALine (sym (ap (λ (t : List ℕ). xs ++ t) none ∙ append-nil xs)) x
joined_ends xs ys x (inr some) = inr (xs ++ some.0, ap (λ (t : List ℕ). xs ++ t) some.1 ∙ sym (append_assoc xs some.0 (10 ∷ [])))

-- whole lines before whole lines
pub lines_before : (text rest after : List ℕ) → AreLinesBefore rest text → AreLinesBefore after rest → AreLinesBefore after text
lines_before text rest after h k = record {
  front = h.front ++ k.front;
  ends = joined_ends h.front k.front h.ends k.ends;
  is = h.is ∙ ap (λ (t : List ℕ). h.front ++ t) k.is ∙ sym (append_assoc h.front k.front after);
}

-- the same before what is left
pub lines_before_more : (text rest more : List ℕ) → AreLinesBefore rest text → AreLinesBefore (rest ++ more) (text ++ more)
lines_before_more text rest more h = record { front = h.front; ends = h.ends; is = ap (λ (t : List ℕ). t ++ more) h.is ∙ append_assoc h.front rest more }

-- where no byte 10 stands
pub no_end : (xs : List ℕ) → ((k : ℕ) → 0 ≤ k → k < length xs → eqb (get_or xs k 0) 10 ≡ true → ⊥) → has_no_end xs ≡ true
no_end [] h = refl
no_end (b ∷ bs) h = rw (false_from_ne_true _ (h 0 (omega arith) (omega arith))) (no_end bs (λ k low high. h (suc k) (omega arith) (omega arith)))

joined_from : (line begun xs more : List ℕ) (n : ℕ) → has_no_end begun ≡ true → EndsAt xs n → lines_from line ((begun ++ xs) ++ more) ≡ nonempty_line (strip_last 13 (line ++ (begun ++ take n xs))) ++ lines_of (drop (suc n) xs ++ more)
joined_from line [] xs more n h e = first_from line xs more n e
joined_from line (b ∷ bs) xs more n h e =
    let p = goes_on b bs h in
    rw p.0 (joined_from (line ++ b ∷ []) bs xs more n p.1 e ∙ ap (λ (l : List ℕ). nonempty_line (strip_last 13 l) ++ lines_of (drop (suc n) xs ++ more)) (append_assoc line (b ∷ []) (bs ++ take n xs)))

-- a line that had begun ends in the next piece
pub joined_line : (begun xs more : List ℕ) (n : ℕ) → has_no_end begun ≡ true → EndsAt xs n → lines_of ((begun ++ xs) ++ more) ≡ nonempty_line (strip_last 13 (begun ++ take n xs)) ++ lines_of (drop (suc n) xs ++ more)
joined_line begun xs more n h e = joined_from [] begun xs more n h e

-- a line goes on through a piece
pub has_no_end-append : (xs ys : List ℕ) → has_no_end xs ≡ true → has_no_end ys ≡ true → has_no_end (xs ++ ys) ≡ true
has_no_end-append [] ys h k = k
has_no_end-append (x ∷ xs) ys h k = let p = goes_on x xs h in rw p.0 (has_no_end-append xs ys p.1 k)

pub end_of : (xs : List ℕ) (n : ℕ) → IsFirstByte (is_byte 10) xs (Some n) → EndsAt xs n
end_of xs n h = ends_at xs n h.0.high (λ k low high p. h.0.before k low high p) h.1
