-- What is noted of writes: the stamps at 256 places, of which a key's last bytes tell its own.
use Rattle.std.specs.Prelude.{◌+◌, ◌*◌, ◌-◌, ◌%◌, ℕ, suc, max, List, length, get_or}
use Rattle.collation.specs.Reference.{Reference}
use Rattle.key_codec.specs.Key.{key_of}
use Rattle.version_chain.specs.Versions.{IsAbove}
use Rattle.version_store.specs.Versions.{Versions, versions_of}

-- the byte so many before the end, or the first where there are fewer
abbrev pub byte_before_end : List ℕ → ℕ → ℕ
byte_before_end bytes back = get_or bytes (length bytes - back) 0

-- the place of a key
abbrev pub place_of : List ℕ → ℕ
place_of key = (byte_before_end key 1 + 16 * byte_before_end key 2 + 5 * byte_before_end key 3) % 256

-- the stamp that is noted for a reference
abbrev pub noted_at : List ℕ → Reference → ℕ
noted_at stamps r = get_or stamps (place_of (key_of r)) 0

-- no version of a reference is after both the cut and what is noted for it
pub record AreNoted (cut : ℕ) (stamps : List ℕ) (m : Versions) : Type 0 where
  pub noted : (r : Reference) → IsAbove (suc (max cut (noted_at stamps r))) (versions_of m r)
