-- Counts that a job has, and how they are raised.
use Rattle.std.specs.Prelude.{◌≡◌, ◌≤◌, ◌<◌, ℕ, zero, suc, ◌-◌, max, min, Bool, nat_lt, ◌&&◌, List, [], ◌∷◌, Some}
use Rattle.std.specs.List.{list_any}
use Rattle.std.specs.Ordering.{eq_by_cmp}
use Rattle.std.specs.FinMap as finmap
use Rattle.collation.specs.Limits.{most_locks}
use Rattle.collation.specs.Reference.{Resource}
use Rattle.lock_name.specs.Locks.{resource_cmp, Counts, count_of, more_of}
use Rattle.lock_trie.specs.Names.{is_at_or_under}

-- no count is above 65,535, and a name that is had no time has no entry
pub record AreCounts (counts : Counts) : Type 0 where
  pub small : (n : Resource) → count_of counts n ≤ most_locks
  pub some : (n : Resource) (v : ℕ) → finmap.get counts n ≡ Some v → 0 < v

-- none is lower than it was, nor higher than that or than the other
pub record AreRaised (old new others : Resource → ℕ) : Type 0 where
  pub above : (x : Resource) → old x ≤ new x
  pub most : (x : Resource) → new x ≤ max (old x) (others x)

-- none is higher than it was, nor lower than that or than the target
pub record AreLowered (old new target : Resource → ℕ) : Type 0 where
  pub below : (x : Resource) → new x ≤ old x
  pub least : (x : Resource) → min (old x) (target x) ≤ new x

-- a name that the list asks for has too high a count once all are added
abbrev pub is_over : List Resource → Counts → Resource → Bool
is_over ns counts n = nat_lt most_locks (count_of (more_of ns counts) n)

-- it stands in the list
abbrev pub is_listed : Resource → List Resource → Bool
is_listed x ns = list_any (eq_by_cmp resource_cmp x) ns

-- this name is had so many times
abbrev pub put_count : Counts → Resource → ℕ → Counts
put_count counts n zero = finmap.remove counts n
put_count counts n (suc v) = finmap.insert counts n (suc v)

-- of each name in the list so many fewer
abbrev pub taken_from : Counts → List (Resource × ℕ) → Counts
taken_from counts [] = counts
taken_from counts (e ∷ es) = put_count (taken_from counts es) e.0 (count_of counts e.0 - e.1)

-- of each name as many fewer as the others have, and none where they have as many or more
abbrev pub less : Counts → Counts → Counts
less counts others = taken_from counts (finmap.entries others)

-- this name is had, or a descendant of it
abbrev pub have_below : Resource → Counts → Bool
have_below n counts = list_any (λ (h : Resource × ℕ). nat_lt 0 h.1 && is_at_or_under n h.0) (finmap.entries counts)
