-- The trie beside the rows.
use Rattle.std.specs.Prelude.{◌≡◌, ℕ, Bool, true, not, ◌==◌, ◌&&◌, List, length}
use Rattle.std.specs.List.{list_any, IsDistinct}
use Rattle.std.specs.Ordering.{eq_by_cmp}
use Rattle.std.specs.FinMap as finmap
use Rattle.collation.specs.Reference.{Resource}
use Rattle.lock_name.specs.Locks.{resource_cmp, count_of, JobLocks, no_locks, LockState, locks_of}
use Rattle.lock_name.specs.LockStatements.{Holds}
use Rattle.lock_trie.specs.Held.{Held, held_count}
use Rattle.lock_table.specs.Counted.{is_listed, have_below}

-- the trie has of each job what its row holds
abbrev pub RowsMatchTrie : Held → LockState → Type 0
RowsMatchTrie trie rows = (job : ℕ) (x : Resource) → held_count trie job x ≡ count_of (locks_of job rows).held x

-- what a job that ends has
abbrev pub nothing : JobLocks → JobLocks
nothing l = no_locks

-- a job other than this one holds the name or a descendant
abbrev pub is_blocked_below : LockState → ℕ → Resource → Bool
is_blocked_below s job n = list_any (λ (j : ℕ × JobLocks). not (j.0 == job) && have_below n j.1.held) (finmap.entries s)

-- the names that some job holds, none of them twice
pub record AreNamesHeld (s : LockState) (names : List Resource) : Type 0 where
  pub once : IsDistinct (eq_by_cmp resource_cmp) names
  pub all : (job : ℕ) (x : Resource) → Holds s job x → is_listed x names ≡ true
  pub only : (x : Resource) → is_listed x names ≡ true → (job : ℕ) × Holds s job x

-- so many names are held, each once for all jobs that hold it
abbrev pub IsNumberHeld : LockState → ℕ → Type 0
IsNumberHeld s n = (names : List Resource) × AreNamesHeld s names × (n ≡ length names)
