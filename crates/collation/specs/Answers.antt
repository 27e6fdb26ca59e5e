-- What $DATA, $ORDER and $QUERY answer, and what MERGE copies. Source: docs/RULES.md, "Data commands".
use Rattle.std.specs.Prelude.{ℕ, ◌+◌, Bool, true, false, ◌&&◌, nat_lt, List, [], ◌++◌, map, filter, fold, drop, length, Option, unwrap_or, if◌then◌else◌}
use Rattle.std.specs.Ordering.{is_lt}
use Rattle.std.specs.List.{list_any, filter_map}
use Rattle.std.specs.FinMap as finmap
use Rattle.collation.specs.declared.direction.Direction.{Direction}
use Rattle.collation.specs.declared.direction.Direction.TheVariants.{Forward, Backward}
use Rattle.collation.specs.Reference.{Reference, Spot}
use Rattle.collation.specs.Order.{subscript_cmp, ref_cmp, ref_eq}
use Rattle.collation.specs.Database.{Database, is_under}
use Rattle.collation.specs.Nearest.{nearest}
use Rattle.collation.specs.Levels.{child_of, is_below, has_name, parent_of, last, is_before}
use Rattle.collation.specs.Limits.{most_subscripts}

-- 1 where r has a value, and 10 more where a descendant of r has one
abbrev pub data_of : Reference → Database → ℕ
data_of r m = (if finmap.contains_key m r then 1 else 0) + (if list_any (is_below r) (finmap.keys m) then 10 else 0)

-- the subscript t comes after the start, or (not forward) before it. An open start comes before all, and backward after all
abbrev pub is_beyond : Bool → Spot → List ℕ → Bool
is_beyond forward p t =
    if p.is_open then true
    else (if forward then is_lt (subscript_cmp (last p.reference.subscripts) t) else is_lt (subscript_cmp t (last p.reference.subscripts)))

-- the subscripts one level below r that the members of the database have there, in order
abbrev pub children_of : Reference → Database → List (List ℕ)
children_of r m = filter_map (child_of r) (finmap.keys m)

-- the nearest sibling beyond the start, or the empty string
abbrev pub order_of : Bool → Spot → Database → List ℕ
order_of forward p m = unwrap_or (nearest forward (filter (is_beyond forward p) (children_of (parent_of p) m))) []

-- x has the name of the place and stands beyond it. An open place stands directly after its reference, and backward after all under it
abbrev pub follows : Bool → Spot → Reference → Bool
follows forward p x = has_name p.reference x && (if forward then is_lt (ref_cmp p.reference x) else is_before p.is_open p.reference x)

-- the nearest member of the name beyond the place
abbrev pub query_of : Bool → Spot → Database → Option Reference
query_of forward p m = nearest forward (filter (follows forward p) (finmap.keys m))

-- the members at or under r, in order
abbrev pub subtree_of : Reference → Database → List (Reference × List ℕ)
subtree_of r m = filter (λ e. is_under r e.0) (finmap.entries m)

-- the reference that stands to a as x, at or under b, stands to b
abbrev pub moved : Reference → Reference → Reference → Reference
moved a b x = record { name = a.name; subscripts = a.subscripts ++ drop (length b.subscripts) x.subscripts }

-- what MERGE sets: each member at or under b, moved to a; into itself it sets nothing
abbrev pub merged : Reference → Reference → Database → List (Reference × List ℕ)
merged a b m = if ref_eq a b then [] else map (λ e. (moved a b e.0, e.1)) (subtree_of b m)

-- the database with these values set, in turn
abbrev pub set_all : List (Reference × List ℕ) → Database → Database
set_all es m = fold (λ (n : Database) (e : Reference × List ℕ). finmap.insert n e.0 e.1) m es

-- some copy would have too many subscripts
abbrev pub is_too_deep : Reference → Reference → Database → Bool
is_too_deep a b m = list_any (λ e. nat_lt most_subscripts (length e.0.subscripts)) (merged a b m)

abbrev pub is_forward : Direction → Bool
is_forward Forward = true
is_forward Backward = false
