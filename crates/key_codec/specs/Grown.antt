-- What writers leave in a buffer.
use Rattle.std.specs.Prelude.{◌≡◌, ℕ, List, ◌++◌}

-- what stood there stands there still, and maybe more after it
pub record GoesOnFrom (old new : List ℕ) : Type 0 where
  pub more : List ℕ
  pub split : new ≡ old ++ more
