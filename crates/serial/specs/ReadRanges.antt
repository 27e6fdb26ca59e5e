-- Read sets as ranges: from where to where in the order of references.
use Rattle.std.specs.Prelude.{◌≡◌, ℕ, Bool, true, false, not, ◌&&◌, List, [], ◌∷◌, Option, Some}
use Rattle.collation.specs.declared.direction.Direction.TheVariants.{Forward, Backward}
use Rattle.command.specs.declared.access.Extent.{Extent}
use Rattle.command.specs.declared.access.DataCommand.TheVariants.{Set, Kill, Merge, Increment}
use Rattle.command.specs.declared.access.Look.TheVariants.{Data, Get, Order, Query, Name}
use Rattle.command.specs.declared.access.Answer.{Answer}
use Rattle.command.specs.declared.access.Answer.TheVariants.{Value, Found}
use Rattle.collation.specs.Reference.{Reference, Spot}
use Rattle.collation.specs.Levels.{parent_of, is_before, has_name, has_level, below}
use Rattle.globals.specs.Cuts.{is_after, name_start}
use Rattle.collation.specs.Names.{bare}
use Rattle.journal.specs.Touching.{look_read, read_set}

-- up to the end of what stands under the answer, or of the level where there is none
abbrev pub level_end : Reference → List ℕ → Reference
level_end parent [] = parent
level_end parent (b ∷ bs) = below parent (b ∷ bs)

-- backward from the answer, or from the beginning of the level where there is none
abbrev pub is_from_level : Reference → List ℕ → Reference → Bool
is_from_level parent [] x = is_after false parent x
is_from_level parent (b ∷ bs) x = not (is_before false (below parent (b ∷ bs)) x)

-- the name without subscripts
abbrev pub root_of : Reference → Reference
root_of r = record { name = r.name; subscripts = [] }

-- SET and the kills read nothing, nor do $GET and $INCREMENT of what the transaction wrote; $DATA and MERGE read what is under a reference, $GET and $INCREMENT the reference, $ORDER from beyond the place up to the end of what is under the answer, $QUERY from beyond the place up to the answer, $ORDER of names from beyond the start up to all of the name that it found
pub record ReadsRange (own : Reference → Bool) (x : Reference) : Type 0 where
  pub set_of : (r : Reference) (v : List ℕ) (a : Answer) → read_set (Set r v) a own x ≡ false
  pub kill_of : (r : Reference) (extent : Extent) (a : Answer) → read_set (Kill r extent) a own x ≡ false
  pub data_of : (r : Reference) (a : Answer) → look_read (Data r) a own x ≡ (not (is_before false r x) && is_before true r x)
  pub merge_of : (a b : Reference) (answer : Answer) → read_set (Merge a b) answer own x ≡ (not (is_before false b x) && is_before true b x)
  pub increment_of : (r : Reference) (n : List ℕ) (a : Answer) → own r ≡ false → read_set (Increment r n) a own x ≡ (not (is_before false r x) && not (is_after false r x))
  pub increment_own : (r : Reference) (n : List ℕ) (a : Answer) → own r ≡ true → read_set (Increment r n) a own x ≡ false
  pub get_of : (r : Reference) (default : Option (List ℕ)) (a : Answer) → own r ≡ false → look_read (Get r default) a own x ≡ (not (is_before false r x) && not (is_after false r x))
  pub get_own : (r : Reference) (default : Option (List ℕ)) (a : Answer) → own r ≡ true → look_read (Get r default) a own x ≡ false
  pub order_forward : (p : Spot) (t : List ℕ) → has_level p ≡ true → look_read (Order p Forward) (Value t) own x ≡ (is_after (not p.is_open) p.reference x && is_before true (level_end (parent_of p) t) x)
  pub order_backward : (p : Spot) (t : List ℕ) → has_level p ≡ true → look_read (Order p Backward) (Value t) own x ≡ (is_from_level (parent_of p) t x && is_before p.is_open p.reference x)
  pub query_forward : (p : Spot) (r : Reference) → has_name p.reference r ≡ true → look_read (Query p Forward) (Found r) own x ≡ (is_after false p.reference x && not (is_after false r x))
  pub query_backward : (p : Spot) (r : Reference) → has_name p.reference r ≡ true → look_read (Query p Backward) (Found r) own x ≡ (not (is_before false r x) && is_before p.is_open p.reference x)
  pub none_forward : (p : Spot) (v : List ℕ) → look_read (Query p Forward) (Value v) own x ≡ (is_after false p.reference x && is_before true (root_of p.reference) x)
  pub none_backward : (p : Spot) (v : List ℕ) → look_read (Query p Backward) (Value v) own x ≡ (not (is_before false (root_of p.reference) x) && is_before p.is_open p.reference x)
  pub name_forward : (start : Option (List ℕ)) (r : Reference) → look_read (Name start Forward) (Found r) own x ≡ (not (name_start true start x) && is_before true (bare r.name) x)
  pub name_backward : (start : Option (List ℕ)) (r : Reference) → look_read (Name start Backward) (Found r) own x ≡ (not (is_before false (bare r.name) x) && name_start false start x)
  pub no_name_forward : (start : Option (List ℕ)) (v : List ℕ) → look_read (Name start Forward) (Value v) own x ≡ not (name_start true start x)
  pub no_name_backward : (start : Option (List ℕ)) (v : List ℕ) → look_read (Name start Backward) (Value v) own x ≡ name_start false start x
