-- The nearest entry of a map whose key passes a test: what a view is asked for.
use Rattle.std.specs.Prelude.{Bool, true, false, cond, List, [], ◌∷◌, Option, None, Some, unwrap_or}
use Rattle.std.specs.declared.cmp.Ordering.{Ordering}
use Rattle.std.specs.Option.{option_or, option_map}
use Rattle.std.specs.List.{find}
use Rattle.std.specs.FinMap as finmap
use Rattle.std.specs.FinMap.{FinMap}
use Rattle.collation.specs.Reference.{Reference, Spot}
use Rattle.collation.specs.Levels.{child_of, parent_of}
use Rattle.collation.specs.Answers.{is_beyond}

-- the last element that passes the test
abbrev pub find_last : {X : Type 0} → (X → Bool) → List X → Option X
find_last test [] = None
find_last test (x ∷ xs) = option_or (find_last test xs) (cond (test x) (Some x) None)

-- the first entry whose key passes the test, or (not forward) the last
abbrev pub nearest_entry : {K X : Type 0} {R : K → K → Ordering} → Bool → (K → Bool) → FinMap R X → Option (K × X)
nearest_entry true test m = find (λ e. test e.0) (finmap.entries m)
nearest_entry false test m = find_last (λ e. test e.0) (finmap.entries m)

-- the element is there and passes the test
abbrev pub any_of : {A : Type 0} → (A → Bool) → Option A → Bool
any_of test o = unwrap_or (option_map test o) false

-- x stands at or under a sibling beyond the start of $ORDER
abbrev pub is_candidate : Bool → Spot → Reference → Bool
is_candidate forward p x = any_of (is_beyond forward p) (child_of (parent_of p) x)
