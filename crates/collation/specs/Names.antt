-- The names that the members of a database have, and the nearest beyond a start.
use Rattle.std.specs.Prelude.{ℕ, Bool, true, false, if◌then◌else◌, List, [], map, filter, Option, Some, None}
use Rattle.std.specs.declared.cmp.Ordering.{Ordering}
use Rattle.std.specs.Cmp.Lexicographic.{slice_cmp}
use Rattle.std.specs.FinMap as finmap
use Rattle.std.specs.Ordering.{nat_cmp, is_lt}
use Rattle.collation.specs.Database.{Database}
use Rattle.collation.specs.Nearest.{nearest}
use Rattle.collation.specs.Reference.{Reference}

-- the order of names: by their bytes
abbrev pub name_cmp : List ℕ → List ℕ → Ordering
name_cmp = slice_cmp nat_cmp

-- the reference of a name alone
abbrev pub bare : List ℕ → Reference
bare name = record { name = name; subscripts = [] }

-- the name n comes after the start, or (not forward) before it; without a start all do
abbrev pub is_name_beyond : Bool → Option (List ℕ) → List ℕ → Bool
is_name_beyond forward None n = true
is_name_beyond forward (Some s) n = is_lt (if forward then name_cmp s n else name_cmp n s)

-- the names of the members of a database, in order, each as often as members have it
abbrev pub names_of : Database → List (List ℕ)
names_of m = map (λ r. r.name) (finmap.keys m)

-- the nearest name beyond the start, where there is one
abbrev pub name_next : Bool → Option (List ℕ) → Database → Option (List ℕ)
name_next forward start m = nearest forward (filter (is_name_beyond forward start) (names_of m))
