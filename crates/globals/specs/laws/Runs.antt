-- How a run is gathered: of all the nodes some lie in it, and the others are left.
use Rattle.std.proofs.Common.{◌≡◌, ℕ, ◌≤◌, List, [], ◌∷◌, ◌++◌, length, sym, ap, ◌∙◌, arith, append_assoc}
use Rattle.collation.specs.Reference.{Reference}
use Rattle.globals.specs.Cuts.{IsRun}

-- one node more lies in the run
pub one_gathered : (all run more left later : List (Reference × List ℕ)) (e : Reference × List ℕ) → all ≡ run ++ left → left ≡ e ∷ later → more ≡ run ++ e ∷ [] → all ≡ more ++ later
one_gathered all run more left later e is first pushed = is ∙ ap (λ l. run ++ l) first ∙ sym (append_assoc run (e ∷ []) later) ∙ ap (λ l. l ++ later) (sym pushed)

-- some lie in the run, and more may be left
pub run_of_some : (most : ℕ) (all run left : List (Reference × List ℕ)) → all ≡ run ++ left → length run ≤ most → 1 ≤ length run → IsRun most run all
run_of_some most all run left is few some = record {
  front = record { rest = left; parts = is };
  bounded = few;
  ends = λ none. absurd (let n : length run ≡ 0 = ap length none in omega (arith, n, some));
}

-- as many as were asked for lie in the run
pub run_of_most : (most n : ℕ) (all run left : List (Reference × List ℕ)) → 1 ≤ most → all ≡ run ++ left → n ≡ length run → n ≡ most → IsRun most run all
run_of_most most n all run left some is counted full = run_of_some most all run left is (omega (arith, counted, full)) (omega (arith, counted, full, some))

-- all of them lie in the run
pub run_of_all : (most : ℕ) (all run left : List (Reference × List ℕ)) → all ≡ run ++ left → left ≡ [] → length run ≤ most → IsRun most run all
run_of_all most all run left is none few = record {
  front = record { rest = left; parts = is };
  bounded = few;
  ends = λ e. is ∙ ap (λ r. r ++ left) e ∙ none;
}
