-- What a walk has left.
use Rattle.std.specs.Prelude.{ℕ, suc, ◌+◌, ◌<◌, List, [], ◌∷◌, ◌++◌, length, reverse}
use Rattle.btree.specs.Order.{Each}
use Rattle.btree.specs.Branch.{Branch}
use Rattle.btree.specs.Parts.{flat}
use Rattle.btree.specs.declared.forward.Left.{Left}

-- what is left of each inner node, the highest node first
abbrev pub left_of : {K V : Type 0} → List (Left K V) → List (K × V)
left_of [] = []
left_of (r ∷ rs) = left_of rs ++ flat r.kids.now

-- the same against the order of keys
abbrev pub left_back_of : {K V : Type 0} → List (Left K V) → List (K × V)
left_back_of [] = []
left_back_of (r ∷ rs) = left_back_of rs ++ reverse (flat r.kids.now)

-- nodes that have pairs, and there is room for the nodes below, under so many rows
abbrev pub HaveRoomBelow : {K V : Type 0} → ℕ → List (Branch K V) → Type 0
HaveRoomBelow {K} {V} rows = Each (λ (k : Branch K V). (rows + suc k.height < 16) × (0 < length k.pairs))

-- each row has a kid, its place, and room below
abbrev pub IsPath : {K V : Type 0} → ℕ → List (Left K V) → Type 0
IsPath rows [] = Unit {0}
IsPath rows (r ∷ rs) = ((0 < length r.kids.now) × (rows < 16) × HaveRoomBelow rows r.kids.now) × IsPath (suc rows) rs
