-- Which bytes a text holds: in the value, or in an allocation.
use Rattle.std.specs.Prelude.{ℕ, ◌<◌, ◌≤◌, List, length, take}
use Rattle.collation.specs.declared.text.Held.{Held}
use Rattle.collation.specs.declared.text.Held.TheVariants.{Short, Long}

abbrev pub bytes_of : Held → List ℕ
bytes_of (Short len room) = take len room
bytes_of (Long bytes) = bytes.value.items

-- what fits into the value lies there
abbrev pub IsHeld : Held → Type 0
IsHeld (Short len room) = len ≤ 14
IsHeld (Long bytes) = 14 < length bytes.value.items
