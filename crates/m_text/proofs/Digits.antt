-- A number only grows by more digits.
use Rattle.std.proofs.Common.{ℕ, ◌+◌, ◌-◌, ◌*◌, ◌≤◌, List, [], ◌∷◌, arith}
use Rattle.m_text.specs.Literal.{number_from}

pub grows : (n : ℕ) (ds : List ℕ) → n ≤ number_from n ds
grows n [] = omega arith
grows n (d ∷ ds) = let more : n * 10 + (d - 48) ≤ number_from (n * 10 + (d - 48)) ds = grows (n * 10 + (d - 48)) ds in omega (arith, more)
