-- Changes of a database, reference by reference.
use Rattle.std.specs.Prelude.{◌≡◌, ⊤, ℕ, List, [], ◌∷◌, Option, None, Some}
use Rattle.std.specs.FinMap as finmap
use Rattle.collation.specs.Reference.{Reference}
use Rattle.collation.specs.Order.{ref_cmp}
use Rattle.collation.specs.Database.{Database}

-- a reference, and the value that it gets, or none where it is removed
abbrev pub Change : Type 0
Change = Reference × Option (List ℕ)

-- the database with this value at the reference, or with none
abbrev pub set_to : Reference → Option (List ℕ) → Database → Database
set_to r (Some v) m = finmap.insert m r v
set_to r None m = finmap.remove m r

-- the database after these changes, in turn
abbrev pub changed : List Change → Database → Database
changed [] m = m
changed (c ∷ cs) m = changed cs (set_to c.0 c.1 m)

-- no two changes are of one reference
abbrev pub AreOnce : List Change → Type 0
AreOnce [] = ⊤
AreOnce (c ∷ cs) = (finmap.find ref_cmp c.0 cs ≡ None) × AreOnce cs
