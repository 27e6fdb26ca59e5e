-- Chains as callers see them: a finite map from ids to lists of versions, newest first, and the cells that are reserved.
-- Read chain_at, versions_at and Updates. IsChains is what the parts of a `Chains` owe each other.
use Rattle.std.specs.Prelude.{◌≡◌, ◌≢◌, ℕ, ◌+◌, ◌<◌, Option, Some, None, is_some, IsSome, count_by, List, [], ◌∷◌, length, map}
use denote.RawPtr.{Ptr}
use Rattle.version_chain.specs.Links.{Line, line_versions, line_pages, AllOf}
use Rattle.version_chain.specs.Slots.{slot_at}
use Rattle.version_chain.specs.Versions.{Entry, IsFalling, cells_of}

-- by number the chain that is open there, and how many cells are reserved
pub record ChainsState (V : Type 0) : Type 0 where
  pub chains : List (Option (List (Entry V)))
  pub spare : ℕ

abbrev pub listed : {A : Type 0} → Option (List A) → List A
listed None = []
listed (Some xs) = xs

module _ {V : Type 0} where
  -- the versions of an id, or none where it is not open
  abbrev pub chain_at : ChainsState V → ℕ → Option (List (Entry V))
  chain_at s id = slot_at s.chains id

  abbrev pub IsOpen : ChainsState V → ℕ → Type 0
  IsOpen s id = IsSome (chain_at s id)

  -- the versions of an open id, newest first
  abbrev pub versions_at : ChainsState V → ℕ → List (Entry V)
  versions_at s id = listed (chain_at s id)

  -- how many cells the chain of an id takes
  abbrev pub cells_at : ChainsState V → ℕ → ℕ
  cells_at s id = cells_of (versions_at s id)

  -- a first version takes no cell, each further one a cell that is reserved
  abbrev pub HasCell : ChainsState V → ℕ → Type 0
  HasCell s id = ¬ (versions_at s id ≡ []) → 0 < s.spare

  -- how many ids are open, and how many numbers there are
  abbrev pub open_count : ChainsState V → ℕ
  open_count s = count_by is_some s.chains

  abbrev pub number_count : ChainsState V → ℕ
  number_count s = length s.chains

  -- the new chains have this under the id, and each other id keeps what it had
  pub record Updates (old new : ChainsState V) (id : ℕ) (chain : Option (List (Entry V))) : Type 0 where
    pub changed : chain_at new id ≡ chain
    pub others : (other : ℕ) → other ≢ id → chain_at new other ≡ chain_at old other

  -- the rest is for the invariant

  abbrev pub line_of : Option (Line V) → Line V
  line_of None = None
  line_of (Some line) = line

  abbrev pub seen_slot : Option (Line V) → Option (List (Entry V))
  seen_slot None = None
  seen_slot (Some line) = Some (line_versions line)

  abbrev pub lists_seen : List (Option (Line V)) → List (Option (List (Entry V)))
  lists_seen = map seen_slot

  -- how many cells the chains have
  abbrev pub total : List (Option (Line V)) → ℕ
  total [] = 0
  total (slot ∷ rest) = cells_of (line_versions (line_of slot)) + total rest

  -- each cell is of one of the pages, and the stamps fall
  abbrev pub IsVersionLine : List Ptr → Line V → Type 0
  IsVersionLine held line = AllOf held (line_pages line) × IsFalling (line_versions line)

  abbrev pub AllLines : List Ptr → List (Option (Line V)) → Type 0
  AllLines held [] = Unit {0}
  AllLines held (slot ∷ rest) = IsVersionLine held (line_of slot) × AllLines held rest

  -- the chains are sound, and have all cells that are out
  pub record IsChains (held : List Ptr) (out : ℕ) (slots : List (Option (Line V))) : Type 0 where
    pub lines : AllLines held slots
    pub counted : out ≡ total slots
