-- What was written, and what was read.
use Rattle.std.specs.Prelude.{◌≡◌, ◌≢◌, ◌⊎◌, ℕ, ◌+◌, ◌-◌, ◌^◌, ◌≤◌, ◌<◌, min, List, ◌++◌, length, take, slice_index_or, Option}
use Rattle.std.specs.Io.KnownBytes.{Appends}

-- the first n bytes of the text were written
pub record WritesBeginning (old new : Option (List ℕ)) (text : List ℕ) : Type 0 where
  pub count : ℕ
  pub in_range : count ≤ length text
  pub bytes : Appends old new (take count text)

-- one more failure, where the count isn't full
abbrev pub IsOneMore : ℕ → ℕ → Type 0
IsOneMore old new = new ≡ min (old + 1) (2 ^ 64 - 1)

-- what was gathered has been written in part, and the rest is gathered still
pub record WritesFront (old new : Option (List ℕ)) (gathered left : List ℕ) : Type 0 where
  pub written : List ℕ
  pub appended : Appends old new written
  pub rest : gathered ≡ written ++ left

-- so many bytes of a text go at once: all; or they end with a line; or they are as many as may, and no line ends in them
abbrev pub IsPiece : ℕ → List ℕ → ℕ → Type 0
IsPiece most text n = (n ≡ length text) ⊎ ((slice_index_or text (n - 1) 0 ≡ 10) ⊎ ((n ≡ most) × ((i : ℕ) → i < n → slice_index_or text i 0 ≢ 10)))
