-- The key of a number, from its parts.
use Rattle.std.specs.Prelude.{ℕ, ◌+◌, ◌-◌, ◌==◌, ◌&&◌, if◌then◌else◌, List, [], ◌∷◌, ◌++◌, length}
use Rattle.canonic_number.specs.declared.place.NumberParts.{NumberParts}
use Rattle.key_codec.specs.Key.{KeyForm, below_key, above_key}

-- no digits are zero; else the place is the count of digits before the point, less the zeros after it
abbrev pub parts_key : KeyForm → NumberParts → List ℕ
parts_key form n =
    if (length n.first.now == 0) && (length n.second.now == 0) then 3 ∷ []
    else (if n.negative then below_key form (n.whole + form.fraction - n.zeros) (n.first.now ++ n.second.now)
    else above_key form (n.whole + form.fraction - n.zeros) (n.first.now ++ n.second.now))
