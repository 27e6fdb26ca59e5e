-- Runs: nodes that are lent, in places of a fixed number.
use denote.Ref.{Bor}
use Rattle.std.specs.Prelude.{ℕ, List, [], ◌∷◌, Option, None, Some}
use Rattle.collation.specs.Reference.{Reference}

-- the nodes in some places, each as its reference and value
abbrev pub nodes_in : List (Option (Bor Reference × Bor (List ℕ))) → List (Reference × List ℕ)
nodes_in [] = []
nodes_in (None ∷ places) = nodes_in places
nodes_in (Some e ∷ places) = (e.0.now, e.1.now) ∷ nodes_in places

-- there is a node in each place
abbrev pub AreLent : List (Option (Bor Reference × Bor (List ℕ))) → Type 0
AreLent [] = Unit {0}
AreLent (None ∷ places) = ⊥
AreLent (Some e ∷ places) = AreLent places
