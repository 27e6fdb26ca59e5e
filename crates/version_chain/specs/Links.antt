-- A chain in its cells. No public clause cites this module.
use Rattle.std.specs.Prelude.{ℕ, ◌<◌, ◌≤◌, Option, Some, None, List, [], ◌∷◌}
use denote.RawPtr.{Ptr}
use Rattle.cell_pool.specs.declared.cell.Cell.{Cell}
use Rattle.cell_pool.specs.Ownership.{IsIn}
use Rattle.version_chain.specs.Versions.{Entry}
use Rattle.version_chain.specs.declared.version.Held.{Held}
use Rattle.version_chain.specs.declared.version.Held.TheVariants.{Absence, Value, AbsenceOver, ValueOver}
use Rattle.version_chain.specs.declared.version.Version.{Version}
use Rattle.version_chain.specs.declared.version.Version.TheOpen.{Version-F}
use Rattle.version_chain.specs.declared.version.Version.TheFolds.{fold-Version}

module _ {V L : Type 0} where
  -- the link to the version before it
  abbrev pub older_in : Held V L → Option L
  older_in (Absence stamp) = None
  older_in (Value stamp value) = None
  older_in (AbsenceOver older) = Some older
  older_in (ValueOver value older) = Some older

  -- a version and those before it, where `below` reads from the link what `seen_version` tells of the cell
  abbrev pub entries_of : (L → ℕ × List (Entry V)) → Held V L → List (Entry V)
  entries_of below (Absence stamp) = (stamp, None) ∷ []
  entries_of below (Value stamp value) = (stamp, Some value) ∷ []
  entries_of below (AbsenceOver older) = ((below older).0, None) ∷ (below older).1
  entries_of below (ValueOver value older) = ((below older).0, Some value) ∷ (below older).1

abbrev pub entry_step : {V : Type 0} → Version-F V (ℕ × List (Entry V)) → ℕ × List (Entry V)
entry_step f = (f.newer, entries_of (λ c. c.value) f.held)

-- what a cell tells: the stamp of the version in front, and its own version with those before it
abbrev pub seen_version : {V : Type 0} → Version V → ℕ × List (Entry V)
seen_version {V} = fold-Version V (ℕ × List (Entry V)) entry_step

-- the stamp of the version in front of a version
abbrev pub newer_of : {V : Type 0} → Version V → ℕ
newer_of v = (seen_version v).0

-- a version and those before it
abbrev pub from_version : {V : Type 0} → Version V → List (Entry V)
from_version v = (seen_version v).1

abbrev pub versions : {V : Type 0} → Option (Cell (Version V)) → List (Entry V)
versions None = []
versions (Some c) = from_version c.value

abbrev pub pages_below : Option (Cell (List Ptr)) → List Ptr
pages_below None = []
pages_below (Some c) = c.page ∷ c.value

abbrev pub page_step : {V : Type 0} → Version-F V (List Ptr) → List Ptr
page_step f = pages_below (older_in f.held)

-- the pages of the cells after a version
abbrev pub pages_behind : {V : Type 0} → Version V → List Ptr
pages_behind {V} = fold-Version V (List Ptr) page_step

-- the pages of the cells of a chain
abbrev pub pages : {V : Type 0} → Option (Cell (Version V)) → List Ptr
pages None = []
pages (Some c) = c.page ∷ pages_behind c.value

-- a newest version and those before it, and the pages of the cells
abbrev pub held_versions : {V : Type 0} → Held V (Cell (Version V)) → List (Entry V)
held_versions h = entries_of (λ c. seen_version c.value) h

abbrev pub held_pages : {V : Type 0} → Held V (Cell (Version V)) → List Ptr
held_pages h = pages (older_in h)

-- a chain: its newest version, which lies in no cell, or none
abbrev pub Line : Type 0 → Type 0
Line V = Option (Held V (Cell (Version V)))

-- the versions of a chain, and the pages of its cells
abbrev pub line_versions : {V : Type 0} → Line V → List (Entry V)
line_versions None = []
line_versions (Some newest) = held_versions newest

abbrev pub line_pages : {V : Type 0} → Line V → List Ptr
line_pages None = []
line_pages (Some newest) = held_pages newest

-- each of the cells is of one of those pages
abbrev pub AllOf : List Ptr → List Ptr → Type 0
AllOf qs [] = Unit {0}
AllOf qs (p ∷ ps) = IsIn qs p × AllOf qs ps

-- the first list turned round, and then the second
abbrev pub back_onto : {A : Type 0} → List A → List A → List A
back_onto [] ys = ys
back_onto (x ∷ xs) ys = back_onto xs (x ∷ ys)

module _ {V : Type 0} where
  abbrev pub AllAfter : ℕ → List (Entry V) → Type 0
  AllAfter h [] = Unit {0}
  AllAfter h (v ∷ vs) = (h < v.0) × AllAfter h vs

  abbrev pub FromAtMost : ℕ → List (Entry V) → Type 0
  FromAtMost h [] = Unit {0}
  FromAtMost h (v ∷ vs) = v.0 ≤ h
