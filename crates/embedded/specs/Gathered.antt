-- How the records of a walk are gathered.
-- Read taken, IsTaken, IsGathered.
use Rattle.std.specs.Prelude.{◌≡◌, ℕ, ◌-◌, Bool, false, ◌&&◌, nat_le, if◌then◌else◌, List, [], ◌∷◌, ◌++◌, length, Option, None, Some}
use Rattle.std.specs.Ordering.{is_lt}
use Rattle.collation.specs.Reference.{Reference}
use Rattle.collation.specs.Order.{ref_cmp}
use Rattle.embedded.specs.Looks.{is_within, record_of, records_of, fitting, last_of}

-- x stands before the root, where there is one
abbrev pub is_before_root : Option Reference → Reference → Bool
is_before_root None x = false
is_before_root (Some r) x = is_lt (ref_cmp x r)

-- of the nodes that are left those up to the first that isn't within the root, or has no room
abbrev pub taken : Option Reference → ℕ → List (Reference × List ℕ) → List (Reference × List ℕ)
taken root room [] = []
taken root room (e ∷ es) = if is_within root e.0 && nat_le (length (record_of e)) room then e ∷ taken root (room - length (record_of e)) es else []

-- the records of those that are taken stand behind what stood there, and last is the last of them, or first
pub record IsTaken (root : Option Reference) (room : ℕ) (left : List (Reference × List ℕ)) (first last : Reference) (old new : List ℕ) : Type 0 where
  pub records : new ≡ old ++ records_of (taken root (room - length old) left)
  pub last_taken : last ≡ last_of first (taken root (room - length old) left)

-- the records of the first of the nodes and of as many more as have room behind it, and the last of them
abbrev pub IsGathered : ℕ → List (Reference × List ℕ) → Reference → List ℕ → Type 0
IsGathered room [] last text = ⊥
IsGathered room (e ∷ es) last text =
    (text ≡ records_of (e ∷ fitting (room - length (record_of e)) es)) × (last ≡ last_of e.0 (fitting (room - length (record_of e)) es))
