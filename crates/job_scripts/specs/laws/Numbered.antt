-- The numbers of groups.
use Rattle.std.proofs.Common.{◌≡◌, ◌≤◌, ℕ, eqb, Bool, true, false, List, [], ◌∷◌, map, refl, sym, arith}
use Rattle.std.proofs.lemmas.Grind.{common_steps}
use Rattle.std.specs.Prelude.{Option, None, Some, if◌then◌else◌, unwrap_or}
use Rattle.job_scripts.specs.Groups.{group, job_at, numbers_in}

is_zero : (n : ℕ) → eqb n 0 ≡ true → n ≡ 0
is_zero n is = grind (arith, common_steps)

pub number_at : (n : ℕ) → unwrap_or (job_at n) 0 ≡ n
number_at n = by (eqb n 0) refl
  where
    by : (b : Bool) → eqb n 0 ≡ b → unwrap_or (if b then None else Some n) 0 ≡ n
    by true is = sym (is_zero n is)
    by false is = refl

-- no job has the number 0
pub job_of_number : (n : ℕ) → 1 ≤ n → job_at n ≡ Some n
job_of_number n low = by (eqb n 0) refl
  where
    by : (b : Bool) → eqb n 0 ≡ b → (if b then None else Some n) ≡ Some n
    by true is = let no : ⊥ = omega (arith, low, is_zero n is) in absurd no
    by false is = refl

pub numbers_group : (lines : List (List ℕ)) (ns : List ℕ) → numbers_in (map (group lines) ns) ≡ ns
numbers_group lines [] = refl
numbers_group lines (n ∷ ns) = λ i. number_at n i ∷ numbers_group lines ns i
