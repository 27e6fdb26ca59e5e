-- Which references stand before a cut, and which members of a database stand next to it.
use Rattle.std.specs.Prelude.{◌++◌, ◌≡◌, ◌≤◌, length, ℕ, Bool, true, false, not, ◌&&◌, List, Option, None, Some, [], ◌∷◌, filter, if◌then◌else◌}
use Rattle.std.specs.Ordering.{is_lt}
use Rattle.std.specs.FinMap as finmap
use Rattle.collation.specs.Reference.{Reference, Spot}
use Rattle.collation.specs.Order.{ref_cmp}
use Rattle.collation.specs.Database.{Database, is_under}
use Rattle.globals.specs.Entries.{nearest_entry}
use Rattle.collation.specs.Levels.{is_before}
use Rattle.collation.specs.Names.{bare}
use Rattle.command.specs.Data.{takes}
use Rattle.command.specs.declared.access.Extent.{Extent}
use Rattle.command.specs.declared.access.Extent.TheVariants.{All, Value as ValueAlone, Below}
use Rattle.globals.specs.declared.cut.Cut.{Cut}
use Rattle.globals.specs.declared.cut.Cut.TheVariants.{Start, Before, After, Past, End}

-- x stands after r and all that is under r
abbrev pub is_past : Reference → Reference → Bool
is_past r x = not (is_under r x) && is_lt (ref_cmp r x)

-- x stands after r, or (whole) after all that is under r
abbrev pub is_after : Bool → Reference → Reference → Bool
is_after whole r x = if whole then is_past r x else is_lt (ref_cmp r x)

-- x stands before the cut
abbrev pub stands_before : Cut → Reference → Bool
stands_before Start x = false
stands_before (Before r) x = is_lt (ref_cmp x r.now)
stands_before (After r) x = not (is_lt (ref_cmp r.now x))
stands_before (Past r) x = is_before true r.now x
stands_before End x = true

-- x stands before the end, where there is one
abbrev pub stands_within : Option Cut → Reference → Bool
stands_within None x = true
stands_within (Some end) x = stands_before end x

-- x stands before the floor, where there is one
abbrev pub stands_under : Option Cut → Reference → Bool
stands_under None x = false
stands_under (Some floor) x = stands_before floor x

-- the members before the end, where there is one
abbrev pub up_to : Option Cut → Database → Database
up_to None m = m
up_to (Some end) m = finmap.from_sorted (filter (λ e. stands_before end e.0) (finmap.entries m))

-- the members that don't stand before the floor, where there is one
abbrev pub down_to : Option Cut → Database → Database
down_to None m = m
down_to (Some floor) m = finmap.from_sorted (filter (λ e. not (stands_before floor e.0)) (finmap.entries m))

-- the first member that doesn't stand before the cut
abbrev pub first_from_cut : Cut → Database → Option (Reference × List ℕ)
first_from_cut cut m = nearest_entry true (λ x. not (stands_before cut x)) m

-- the last member that stands before the cut
abbrev pub last_before_cut : Cut → Database → Option (Reference × List ℕ)
last_before_cut cut m = nearest_entry false (stands_before cut) m

-- the first of these, or (not forward) the last
abbrev pub next_to : Bool → Cut → Database → Option (Reference × List ℕ)
next_to true cut m = first_from_cut cut m
next_to false cut m = last_before_cut cut m

-- x stands before the cut at which $ORDER starts: an open place's descendants are its level, a closed one's are passed over
abbrev pub order_start : Bool → Spot → Reference → Bool
order_start true p x = if p.is_open then not (is_lt (ref_cmp p.reference x)) else is_before true p.reference x
order_start false p x = is_before p.is_open p.reference x

-- x stands before the cut at which $QUERY starts
abbrev pub query_start : Bool → Spot → Reference → Bool
query_start true p x = not (is_lt (ref_cmp p.reference x))
query_start false p x = is_before p.is_open p.reference x

-- x stands before the cut at which what a kill takes begins, and before that at which it ends
abbrev pub taken_start : Extent → Reference → Reference → Bool
taken_start All r x = is_lt (ref_cmp x r)
taken_start ValueAlone r x = is_lt (ref_cmp x r)
taken_start Below r x = not (is_lt (ref_cmp r x))

abbrev pub taken_end : Extent → Reference → Reference → Bool
taken_end All r x = is_before true r x
taken_end ValueAlone r x = not (is_lt (ref_cmp r x))
taken_end Below r x = is_before true r x

-- the members that a kill takes, in order
abbrev pub taken_of : Extent → Reference → Database → List (Reference × List ℕ)
taken_of extent r m = filter (λ e. takes extent r e.0) (finmap.entries m)

-- x stands before the cut at which $ORDER of names starts: past all of the start's name, and backward before it
abbrev pub name_start : Bool → Option (List ℕ) → Reference → Bool
name_start true None x = false
name_start true (Some n) x = is_before true (bare n) x
name_start false None x = true
name_start false (Some n) x = is_lt (ref_cmp x (bare n))

-- the members that don't stand before the cut, in order
abbrev pub entries_from : Cut → Database → List (Reference × List ℕ)
entries_from cut m = filter (λ e. not (stands_before cut e.0)) (finmap.entries m)

-- the beginning of a list that is at or under r
abbrev pub front_under : Reference → List (Reference × List ℕ) → List (Reference × List ℕ)
front_under r [] = []
front_under r (e ∷ es) = if is_under r e.0 then e ∷ front_under r es else []

-- the beginning of a list that stands before the end
abbrev pub front_to : {X : Type 0} → Option Cut → List (Reference × X) → List (Reference × X)
front_to end [] = []
front_to end (e ∷ es) = if stands_within end e.0 then e ∷ front_to end es else []

-- of a list that goes back the beginning that doesn't stand before the floor
abbrev pub front_down_to : {X : Type 0} → Option Cut → List (Reference × X) → List (Reference × X)
front_down_to floor [] = []
front_down_to floor (e ∷ es) = if stands_under floor e.0 then [] else e ∷ front_down_to floor es

-- the list begins with these
pub record IsFront (front all : List (Reference × List ℕ)) : Type 0 where
  pub rest : List (Reference × List ℕ)
  pub parts : all ≡ front ++ rest

-- the list begins with these, they are at most so many, and it is empty where they are none
pub record IsRun (most : ℕ) (run all : List (Reference × List ℕ)) : Type 0 where
  pub front : IsFront run all
  pub bounded : length run ≤ most
  pub ends : run ≡ [] → all ≡ []
