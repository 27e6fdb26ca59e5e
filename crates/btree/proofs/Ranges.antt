-- A row without the elements between two places.
use Rattle.std.proofs.lemmas.List.{length-take-le, length-drop}
use Rattle.std.proofs.Common.{◌≡◌, ℕ, ◌+◌, ◌-◌, ◌≤◌, List, length, take, drop, arith, length-append}
use Rattle.std.specs.List.{remove_range}
use Rattle.btree.specs.Order.{Each}
use Rattle.btree.proofs.Order.{each_append}
use Rattle.btree.proofs.Leaves.{each_at_end}

module _ {A : Type 0} where
  pub length_less : (xs : List A) (i j : ℕ) → i ≤ j → j ≤ length xs → length (remove_range xs i j) + (j - i) ≡ length xs
  length_less xs i j p q = omega (arith, length-append (take i xs) (drop j xs), length-drop j xs, length-take-le i xs (omega arith))

  pub each_less : (P : A → Type 0) (xs : List A) (i j : ℕ) → Each P xs → Each P (remove_range xs i j)
  each_less P xs i j h = each_append P (take i xs) (drop j xs) (each_at_end P i xs h).0 (each_at_end P j xs h).1
