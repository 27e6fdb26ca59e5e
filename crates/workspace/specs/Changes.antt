-- The changes that a workspace's writes make to a database: each touched reference once, with its value or none.
use Rattle.std.specs.Prelude.{◌≡◌, ℕ, Bool, not, ◌&&◌, ◌||◌, List, [], ◌∷◌, ◌++◌, Some, None, if◌then◌else◌}
use Rattle.std.specs.List.{list_any}
use Rattle.std.specs.FinMap as finmap
use Rattle.collation.specs.Reference.{Reference}
use Rattle.collation.specs.Order.{ref_eq}
use Rattle.collation.specs.Database.{Database}
use Rattle.command.specs.declared.access.Extent.{Extent}
use Rattle.globals.specs.Cuts.{taken_of}
use Rattle.collation.specs.Changes.{Change, changed, AreOnce}
use Rattle.workspace.specs.Layers.{Layer, laid_over}

-- x is written, or has a value below and none any more
abbrev pub touches : Layer → Database → Reference → Bool
touches w m x = finmap.contains_key w.written x || (finmap.contains_key m x && not (finmap.contains_key (laid_over w m) x))

-- these changes turn the database into the writes laid over it, and change just what is touched, each reference once
pub record AreChanges (w : Layer) (m : Database) (cs : List Change) : Type 0 where
  pub leave : changed cs m ≡ laid_over w m
  pub touched : (x : Reference) → list_any (λ (c : Change). ref_eq x c.0) cs ≡ touches w m x
  pub once : AreOnce cs

-- ---- how they are listed

abbrev pub set_changes : List (Reference × List ℕ) → List Change
set_changes [] = []
set_changes (e ∷ es) = (e.0, Some e.1) ∷ set_changes es

-- each of these that isn't written
abbrev pub removed : Database → List (Reference × List ℕ) → List Change
removed written [] = []
removed written (e ∷ es) = if finmap.contains_key written e.0 then removed written es else (e.0, None) ∷ removed written es

-- what the kills take, one after another, and isn't written
abbrev pub removed_by : Database → Database → List (Reference × Extent) → List Change
removed_by written m [] = []
removed_by written m (k ∷ ks) = removed written (taken_of k.1 k.0 m) ++ removed_by written m ks
