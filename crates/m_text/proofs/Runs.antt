-- Strings, run after run.
use Rattle.std.proofs.Common.{◌≡◌, ℕ, suc, ◌<◌, Bool, true, false, List, [], ◌∷◌, ◌++◌, length, get_or, take, drop, refl, sym, ap, ◌∙◌, arith}
use Rattle.std.proofs.Math.Numerals.{one-add}
use Rattle.std.specs.List.{position_or_len}
use Rattle.m_text.specs.Written.{is_plain, ends_run, put_before, runs, parted, run_text}

abbrev first_run : Bool → ℕ → List ℕ → List (List ℕ)
first_run plain b bs = (b ∷ take (position_or_len (ends_run plain) bs) bs) ∷ runs (drop (position_or_len (ends_run plain) bs) bs)

run_step : (b c : ℕ) (cs : List ℕ) (plain k : Bool) → is_plain b ≡ plain → is_plain c ≡ k → runs (c ∷ cs) ≡ first_run k c cs → runs (b ∷ c ∷ cs) ≡ first_run plain b (c ∷ cs)
run_step b c cs true true p q ih = ap (put_before b) ih ∙ rw (p, q, one-add) refl
run_step b c cs false false p q ih = ap (put_before b) ih ∙ rw (p, q, one-add) refl
run_step b c cs true false p q ih = ap (put_before b) ih ∙ (rw (p, q) (ap (λ rs. (b ∷ []) ∷ rs) (sym ih)))
run_step b c cs false true p q ih = ap (put_before b) ih ∙ (rw (p, q) (ap (λ rs. (b ∷ []) ∷ rs) (sym ih)))

runs_first : (b : ℕ) (bs : List ℕ) (plain : Bool) → is_plain b ≡ plain → runs (b ∷ bs) ≡ first_run plain b bs
runs_first b [] plain p = refl
runs_first b (c ∷ cs) plain p = run_step b c cs plain (is_plain c) p refl (runs_first c cs (is_plain c) refl)

first_end : (b : ℕ) (bs : List ℕ) (plain : Bool) → is_plain b ≡ plain → position_or_len (ends_run plain) (b ∷ bs) ≡ suc (position_or_len (ends_run plain) bs)
first_end b bs true p = rw p (one-add _)
first_end b bs false p = rw p (one-add _)

-- a string cut after its first run
pub cut_run : (bs run rest : List ℕ) (n : ℕ) (plain : Bool) → 0 < length bs → plain ≡ is_plain (get_or bs 0 0) → position_or_len (ends_run plain) bs ≡ n → run ≡ take n bs → rest ≡ drop n bs → runs bs ≡ run ∷ runs rest
cut_run [] run rest n plain some p e f g = absurd (omega arith)
cut_run (b ∷ bs) run rest n plain some p e f g =
    let k : n ≡ suc (position_or_len (ends_run plain) bs) = sym e ∙ first_end b bs plain (sym p) in
    rw (f, g, k) (runs_first b bs plain (sym p))

-- what follows a run, where something does
pub parted_more : (run after : List ℕ) → 0 < length after → parted 95 run_text (run ∷ runs after) ≡ run_text run ++ (95 ∷ parted 95 run_text (runs after))
parted_more run [] h = absurd (omega arith)
parted_more run (b ∷ bs) h = rw (runs_first b bs (is_plain b) refl) refl
