-- How a tree of ids and chains hold the versions together.
use Rattle.std.specs.Prelude.{◌≡◌, ℕ, suc, ◌<◌, ◌≤◌, Bool, true, not, List, [], ◌∷◌, ◌++◌, Option, Some, None, map, filter, length}
use Rattle.std.specs.List.{list_any}
use Rattle.std.specs.Ordering.{eq_by_cmp}
use Rattle.std.specs.FinMap.{find, is_sorted, from_sorted, contains_key}
use Rattle.collation.specs.Reference.{Reference}
use Rattle.collation.specs.Order.{ref_cmp}
use Rattle.globals.specs.declared.cut.Cut.{Cut}
use Rattle.globals.specs.Cuts.{stands_before, stands_within}
use Rattle.version_chain.specs.Versions.{is_one_value, IsAbove, IsFalling}
use Rattle.version_chain.specs.Chains.{ChainsState, versions_at, IsOpen, open_count}
use Rattle.version_store.specs.Versions.{Row, Versions, newest_among, seen_at, keys_of, last_or}

-- each key with the versions under its id
abbrev pub rows : ChainsState (List ℕ) → List (Reference × ℕ) → List (Reference × Row)
rows chains = map (λ p. (p.0, versions_at chains p.1))

abbrev pub versions_in : ChainsState (List ℕ) → List (Reference × ℕ) → Versions
versions_in chains pairs = from_sorted (rows chains pairs)

-- the newest stamp of the rows that stand before a cut
abbrev pub newest_below : Cut → ChainsState (List ℕ) → List (Reference × ℕ) → Option ℕ
newest_below high chains pairs = newest_among (filter (λ e. stands_before high e.0) (rows chains pairs))

-- what is seen at a stamp of the pairs before an end, where there is one
abbrev pub seen_to : Option Cut → ℕ → ChainsState (List ℕ) → List (Reference × ℕ) → List (Reference × List ℕ)
seen_to end stamp chains pairs = seen_at stamp (rows chains (filter (λ p. stands_within end p.0) pairs))

-- one of the pairs doesn't stand before the end
abbrev pub reaches : Option Cut → List (Reference × ℕ) → Bool
reaches end pairs = list_any (λ p. not (stands_within end p.0)) pairs

-- the first of these lie in the run: so many, or all
pub record IsFilled (most : ℕ) (run all : List (Reference × List ℕ)) : Type 0 where
  pub left : List (Reference × List ℕ)
  pub parts : all ≡ run ++ left
  pub bounded : length run ≤ most
  pub whole : length run < most → left ≡ []

-- the id of each pair is open
abbrev pub AreOpen : ChainsState (List ℕ) → List (Reference × ℕ) → Type 0
AreOpen chains [] = Unit {0}
AreOpen chains (p ∷ ps) = IsOpen chains p.1 × AreOpen chains ps

-- the key of each pair is placed
abbrev pub AreKeysOf : Versions → List (Reference × ℕ) → Type 0
AreKeysOf m [] = Unit {0}
AreKeysOf m (p ∷ ps) = (contains_key m p.0 ≡ true) × AreKeysOf m ps

-- the keys of the pairs of whose versions something may go
abbrev pub keys_worth : ChainsState (List ℕ) → List (Reference × ℕ) → List Reference
keys_worth chains pairs = keys_of (filter (λ p. not (is_one_value (versions_at chains p.1))) pairs)

-- these pairs were seen: what was copied, how many there are, and the last
pub record HasSeen (chains : ChainsState (List ℕ)) (pairs : List (Reference × ℕ)) (keys : List Reference) (visited : ℕ) (last : Option Reference) : Type 0 where
  pub keys_are : keys ≡ keys_worth chains pairs
  pub visited_is : visited ≡ length pairs
  pub last_is : last ≡ last_or None (keys_of pairs)

-- the keys rise, each has an open chain, no chain is named twice, no other is open, no version is after now, none is there
-- where that is 0, and stamps fall
pub record IsTied (pairs : List (Reference × ℕ)) (chains : ChainsState (List ℕ)) (now : ℕ) : Type 0 where
  pub sorted : is_sorted ref_cmp pairs ≡ true
  pub opened : (q : Reference) (id : ℕ) → find ref_cmp q pairs ≡ Some id → IsOpen chains id
  pub apart : (q r : Reference) (id : ℕ) → find ref_cmp q pairs ≡ Some id → find ref_cmp r pairs ≡ Some id → eq_by_cmp ref_cmp q r ≡ true
  pub settled : (q : Reference) (id : ℕ) → find ref_cmp q pairs ≡ Some id → IsAbove (suc now) (versions_at chains id)
  pub fresh : now ≡ 0 → (q : Reference) (id : ℕ) → find ref_cmp q pairs ≡ Some id → versions_at chains id ≡ []
  pub falls : (q : Reference) (id : ℕ) → find ref_cmp q pairs ≡ Some id → IsFalling (versions_at chains id)
  pub counted : open_count chains ≡ length pairs
