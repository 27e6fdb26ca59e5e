-- References that are placed and have no version: they take memory, and nobody sees them.
use Rattle.std.specs.Prelude.{◌≡◌, true, List, None}
use Rattle.std.specs.FinMap as finmap
use Rattle.std.specs.FinMap.{find}
use Rattle.collation.specs.Reference.{Reference}
use Rattle.collation.specs.Order.{ref_cmp}
use Rattle.collation.specs.Changes.{Change}
use Rattle.version_store.specs.Versions.{Versions, is_bare}

-- each that is bare was so before, and none of those that are changed is
abbrev pub LeavesNoneBare : List Change → Versions → Versions → Type 0
LeavesNoneBare changes old new = (x : Reference) → is_bare (finmap.get new x) ≡ true → (find ref_cmp x changes ≡ None) × (is_bare (finmap.get old x) ≡ true)

-- only references that are changed were placed
abbrev pub PlacesTheChanged : List Change → Versions → Versions → Type 0
PlacesTheChanged changes old new = (x : Reference) → find ref_cmp x changes ≡ None → finmap.get new x ≡ finmap.get old x
