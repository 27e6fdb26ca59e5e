-- Runs of bytes at the front of a text.
use Rattle.std.proofs.Common.{◌≡◌, ℕ, ◌+◌, ◌<◌, Bool, true, false, cond, List, [], ◌∷◌, ◌++◌, length, take, drop, refl, sym, ap, ◌∙◌, arith}
use Rattle.std.proofs.Math.Numerals.{one-add}
use Rattle.std.proofs.lemmas.List.{take-append-drop}
use Rattle.std.proofs.lemmas.Bool.{and_parts, ne_eqb}
use Rattle.std.specs.Prelude.{⊤, not, ◌==◌}
use Rattle.std.specs.List.{list_all, position_or_len}

-- a list that isn't empty has a length above 0
pub some_length : (xs : List ℕ) → (length xs == 0) ≡ false → 0 < length xs
some_length [] e = absurd cc
some_length (x ∷ xs) e = omega arith

-- what has a length above 0 isn't empty
pub some_test : (xs : List ℕ) → 0 < length xs → (length xs == 0) ≡ false
some_test xs h = ne_eqb (length xs) 0 (λ e. omega (arith, h, e))

-- the first byte, where there is one, ends a run
abbrev pub Ends : (ℕ → Bool) → List ℕ → Type 0
Ends p [] = ⊤
Ends p (b ∷ bs) = p b ≡ true

-- no byte of a run at the front ends it
pub run_passes : (p q : ℕ → Bool) → ((b : ℕ) → p b ≡ not (q b)) → (bs : List ℕ) → list_all q (take (position_or_len p bs) bs) ≡ true
run_passes p q same [] = refl
run_passes p q same (b ∷ bs) = at (p b) (q b) (same b) refl refl (run_passes p q same bs)
  where
    at : (t u : Bool) → t ≡ not u → p b ≡ t → q b ≡ u → list_all q (take (position_or_len p bs) bs) ≡ true → list_all q (take (cond (not t) (1 + position_or_len p bs) 0) (b ∷ bs)) ≡ true
    at true u e f g ih = refl
    at false true e f g ih = rw (one-add, g) ih
    at false false e f g ih = absurd cc

pub run_parts : (p : ℕ → Bool) (bs : List ℕ) → bs ≡ take (position_or_len p bs) bs ++ drop (position_or_len p bs) bs
run_parts p bs = sym (take-append-drop (position_or_len p bs) bs)

-- a run of passing bytes before one that ends it
pub run_is : (p q : ℕ → Bool) → ((b : ℕ) → p b ≡ not (q b)) → (run rest : List ℕ) → list_all q run ≡ true → Ends p rest →
    (take (position_or_len p (run ++ rest)) (run ++ rest) ≡ run) × (drop (position_or_len p (run ++ rest)) (run ++ rest) ≡ rest)
run_is p q same [] [] all ends = (refl, refl)
run_is p q same [] (b ∷ bs) all ends = (rw ends refl, rw ends refl)
run_is p q same (b ∷ run) rest all ends =
    let h = and_parts (q b) (list_all q run) all in
    let ih = run_is p q same run rest h.1 ends in
    let passes : p b ≡ false = same b ∙ ap not h.0 in
    (rw (passes, one-add) (ap (λ xs. b ∷ xs) ih.0), rw (passes, one-add) ih.1)
