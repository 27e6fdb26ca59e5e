-- The lines of a text are what its bytes 10 part.
use Rattle.std.proofs.Common.{◌≡◌, ℕ, true, false, eqb, List, [], ◌∷◌, ◌++◌, not, ◌&&◌, refl, sym, ap, ◌∙◌, append_assoc}
use Rattle.std.proofs.lemmas.List.{append-nil}
use Rattle.std.proofs.lemmas.Bool.{and_parts}
use Rattle.std.specs.List.{list_all, flat_map}
use Rattle.std.specs.Io.BufRead.{strip_last}
use Rattle.script_run.specs.Lines.{nonempty_line, lines_from, lines_of, has_no_end, text_of_lines}

-- a byte that is no end
pub goes_on : (b : ℕ) (bs : List ℕ) → has_no_end (b ∷ bs) ≡ true → (eqb b 10 ≡ false) × (has_no_end bs ≡ true)
goes_on b bs h = elim (eqb b 10) as (λ t. (not t && has_no_end bs) ≡ true → (t ≡ false) × (has_no_end bs ≡ true)) [ true ↦ λ e. absurd cc | false ↦ λ e. (refl, e) ] h

last_from : (line xs : List ℕ) → has_no_end xs ≡ true → lines_from line xs ≡ nonempty_line (line ++ xs)
last_from line [] h = ap nonempty_line (sym (append-nil line))
last_from line (b ∷ bs) h = let p = goes_on b bs h in rw p.0 (last_from (line ++ b ∷ []) bs p.1 ∙ ap nonempty_line (append_assoc line (b ∷ []) bs))

-- a line without an end
pub last_line : (xs : List ℕ) → has_no_end xs ≡ true → lines_of xs ≡ nonempty_line xs
last_line xs h = last_from [] xs h

-- a line and its end
ended_from : (line xs more : List ℕ) → has_no_end xs ≡ true → lines_from line (xs ++ 10 ∷ more) ≡ nonempty_line (strip_last 13 (line ++ xs)) ++ lines_of more
ended_from line [] more h = ap (λ (l : List ℕ). nonempty_line (strip_last 13 l) ++ lines_of more) (sym (append-nil line))
ended_from line (b ∷ bs) more h =
    let p = goes_on b bs h in
    rw p.0 (ended_from (line ++ b ∷ []) bs more p.1 ∙ ap (λ (l : List ℕ). nonempty_line (strip_last 13 l) ++ lines_of more) (append_assoc line (b ∷ []) bs))

pub cut_at_ends : (ls : List (List ℕ)) (last : List ℕ) → list_all has_no_end ls ≡ true → has_no_end last ≡ true → lines_of (text_of_lines ls last) ≡ flat_map (λ (l : List ℕ). nonempty_line (strip_last 13 l)) ls ++ nonempty_line last
cut_at_ends [] last all h = last_line last h
cut_at_ends (l ∷ ls) last all h =
    let p = and_parts (has_no_end l) _ all in
    ended_from [] l (text_of_lines ls last) p.0 ∙ ap (λ (rest : List (List ℕ)). nonempty_line (strip_last 13 l) ++ rest) (cut_at_ends ls last p.1 h)
    ∙ sym (append_assoc (nonempty_line (strip_last 13 l)) (flat_map (λ (l : List ℕ). nonempty_line (strip_last 13 l)) ls) (nonempty_line last))
