-- What a key keeps.
use Rattle.std.specs.Prelude.{◌≡◌, ℕ, List}
use Rattle.collation.specs.Reference.{Reference}
use Rattle.key_codec.specs.Key.{key_of, IsFaultless}

-- the bytes are the key of this reference, which keeps the limits
pub record Keeps (bytes : List ℕ) (r : Reference) : Type 0 where
  pub key : bytes ≡ key_of r
  pub form : IsFaultless r
