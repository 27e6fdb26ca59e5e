-- Counts that stop at the most that a word holds.
use Rattle.std.proofs.Common.{◌≡◌, ◌≤◌, ℕ, ◌+◌, ◌-◌, ◌^◌, min, List, [], length, sym, ap, subst, ◌∙◌, arith}
use Rattle.std.proofs.Math.Nat.{min-eq_left}

-- where nothing is left, what is counted is all
pub all_counted : {A : Type 0} (n all : ℕ) (left : List A) → left ≡ [] → n ≤ 2 ^ 64 - 1 → min (n + length left) (2 ^ 64 - 1) ≡ all → n ≡ all
all_counted {A} n all left e low is =
    let none : length left ≡ 0 = ap (λ (l : List A). length l) e in
    let same : n + length left ≡ n = omega (arith, none) in
    sym (min-eq_left low) ∙ subst (λ (m : ℕ). min m (2 ^ 64 - 1) ≡ all) same is
