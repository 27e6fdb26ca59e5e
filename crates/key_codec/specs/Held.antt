-- Which bytes a key holds: in the value, or in an allocation.
use Rattle.std.specs.Prelude.{◌≡◌, ℕ, ◌-◌, ◌<◌, ◌≤◌, List, length, take, drop, replicate}
use Rattle.key_codec.specs.declared.bytes.Held.{Held}
use Rattle.key_codec.specs.declared.bytes.Held.TheVariants.{Short, Long}

abbrev pub bytes_of : Held → List ℕ
bytes_of (Short len room) = take len room
bytes_of (Long bytes) = bytes.items

-- after so many bytes the room is zeros
abbrev pub IsFilled : ℕ → List ℕ → Type 0
IsFilled len room = (len ≤ 38) × (drop len room ≡ replicate (38 - len) 0)

-- what fits into the value lies there
abbrev pub IsHeld : Held → Type 0
IsHeld (Short len room) = IsFilled len room
IsHeld (Long bytes) = 38 < length bytes.items
