-- The first or the last of a list.
use Rattle.std.specs.Prelude.{Bool, true, false, List, Option, None}
use Rattle.std.specs.List.{find, last_or}

-- the first of the list, or (not forward) the last
abbrev pub nearest : {X : Type 0} → Bool → List X → Option X
nearest true xs = find (λ x. true) xs
nearest false xs = last_or None xs
