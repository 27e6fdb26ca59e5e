-- Which references stand below one, and which stand before a cut.
use Rattle.std.specs.Prelude.{ℕ, Bool, ◌||◌, nat_eq, nat_lt, List, [], ◌∷◌, ◌++◌, length, Option, None, Some, is_some, if◌then◌else◌}
use Rattle.std.specs.Cmp.Lexicographic.{pointwise}
use Rattle.std.specs.Ordering.{is_lt}
use Rattle.collation.specs.Reference.{Reference, Spot}
use Rattle.collation.specs.Order.{ref_cmp}
use Rattle.collation.specs.Database.{is_under}

-- where xs goes on from ps, its first element beyond ps
abbrev pub child : List (List ℕ) → List (List ℕ) → Option (List ℕ)
child [] [] = None
child [] (x ∷ xs) = Some x
child (p ∷ ps) [] = None
child (p ∷ ps) (x ∷ xs) = if pointwise nat_eq p x then child ps xs else None

-- where x is a descendant of r, the subscript under r on the way to it
abbrev pub child_of : Reference → Reference → Option (List ℕ)
child_of r x = if pointwise nat_eq r.name x.name then child r.subscripts x.subscripts else None

-- x is a descendant of r, and not r itself
abbrev pub is_below : Reference → Reference → Bool
is_below r x = is_some (child_of r x)

abbrev pub has_name : Reference → Reference → Bool
has_name r x = pointwise nat_eq r.name x.name

-- all but the last
abbrev pub without_last : List (List ℕ) → List (List ℕ)
without_last [] = []
without_last (x ∷ []) = []
without_last (x ∷ y ∷ ys) = x ∷ without_last (y ∷ ys)

abbrev pub last : List (List ℕ) → List ℕ
last [] = []
last (x ∷ []) = x
last (x ∷ y ∷ ys) = last (y ∷ ys)

-- one level up from a place: an open one stands one level below its reference
abbrev pub parent_of : Spot → Reference
parent_of p = if p.is_open then p.reference else record { name = p.reference.name; subscripts = without_last p.reference.subscripts }

-- x stands before r, or (whole) before the end of all that is under r
abbrev pub is_before : Bool → Reference → Reference → Bool
is_before whole r x = if whole then (is_under r x || is_lt (ref_cmp x r)) else is_lt (ref_cmp x r)

-- one of two references is a proper descendant of the other
abbrev pub overlap : Reference → Reference → Bool
overlap a b = is_below a b || is_below b a

-- a place that names a level: it has a subscript, if an empty one
abbrev pub has_level : Spot → Bool
has_level p = p.is_open || nat_lt 0 (length p.reference.subscripts)

-- the reference one level below r
abbrev pub below : Reference → List ℕ → Reference
below r s = record { name = r.name; subscripts = r.subscripts ++ s ∷ [] }
