-- Who holds one name.
use Rattle.std.specs.Prelude.{◌≡◌, ◌<◌, ◌≤◌, ℕ, zero, suc, Bool, not, ◌==◌, List, [], ◌∷◌, length, take, Option, None, Some, unwrap_or, slice_index_or, if◌then◌else◌}
use Rattle.std.specs.List.{list_any}
use Rattle.std.specs.Ordering.{nat_cmp, eq_by_cmp}
use Rattle.std.specs.FinMap.Entries.{find}
use Rattle.collation.specs.Limits.{most_locks}

-- how many times the job holds it
abbrev pub counted : List (ℕ × ℕ) → ℕ → ℕ
counted hs job = unwrap_or (find nat_cmp job hs) 0

-- a job other than this one holds it
abbrev pub has_other : List (ℕ × ℕ) → ℕ → Bool
has_other hs job = list_any (λ h. not (h.0 == job)) hs

-- each job is there once, with a count from 1 to 65,535
abbrev pub AreHolders : List (ℕ × ℕ) → Type 0
AreHolders [] = Unit {0}
AreHolders (h ∷ hs) = (find nat_cmp h.0 hs ≡ None) × ((0 < h.1) × (h.1 ≤ most_locks)) × AreHolders hs

-- and somebody is
abbrev pub IsEntry : List (ℕ × ℕ) → Type 0
IsEntry hs = (0 < length hs) × AreHolders hs

-- this job so many times, or no job where that is none
abbrev pub one_of : ℕ → ℕ → List (ℕ × ℕ)
one_of job zero = []
one_of job (suc n) = (job, suc n) ∷ []

-- the entry of a name with these holders: none where nobody holds it
abbrev pub entry_of : List (ℕ × ℕ) → Option (List (ℕ × ℕ))
entry_of [] = None
entry_of (h ∷ hs) = Some (h ∷ hs)

-- the job's count is now c, and those of others are what they were
abbrev pub IsCounted : List (ℕ × ℕ) → List (ℕ × ℕ) → ℕ → ℕ → Type 0
IsCounted old new job c = (other : ℕ) → counted new other ≡ (if eq_by_cmp nat_cmp other job then c else counted old other)

-- the job stands at this place, and not before
pub record IsFirstAt (hs : List (ℕ × ℕ)) (job i : ℕ) : Type 0 where
  pub within : i < length hs
  pub here : (d : ℕ × ℕ) → (slice_index_or hs i d).0 ≡ job
  pub before : find nat_cmp job (take i hs) ≡ None
