-- What a reference and a place are.
use Rattle.std.specs.Prelude.{ℕ, Bool, List}

-- a global's name, and the subscripts
pub record Reference : Type 0 where
  pub name : List ℕ
  pub subscripts : List (List ℕ)

-- a reference, and whether an empty subscript follows its own
pub record Spot : Type 0 where
  pub reference : Reference
  pub is_open : Bool

-- what a lock name stands for: named like a reference, with the caret or without
pub record Resource : Type 0 where
  pub has_caret : Bool
  pub reference : Reference
