-- Which jobs have a session that is open, in order of their first accepted lines. Source: docs/RULES.md, "Jobs".
use Rattle.std.specs.Prelude.{◌≡◌, ◌<◌, ◌≤◌, ◌+◌, ℕ, Bool, false, not, List, [], ◌∷◌, ◌++◌, ◌==◌, length, get_or, Option, None, Some, if◌then◌else◌}
use Rattle.std.specs.List.{filter, list_any}

-- the job is among those that are open
abbrev pub is_open : ℕ → List ℕ → Bool
is_open job jobs = list_any (λ j. j == job) jobs

-- the job is open, from its first accepted line on
abbrev pub has_joined : ℕ → List ℕ → List ℕ
has_joined job jobs = if is_open job jobs then jobs else jobs ++ job ∷ []

-- the others
abbrev pub without_job : ℕ → List ℕ → List ℕ
without_job job jobs = filter (λ j. not (j == job)) jobs

-- after an accepted line of the job, if there was one, that ended the session or didn't
abbrev pub open_after : Option ℕ → Bool → List ℕ → List ℕ
open_after None ended jobs = jobs
open_after (Some job) ended jobs = if ended then without_job job jobs else has_joined job jobs

-- how many flags are set
abbrev pub tally : List Bool → ℕ
tally [] = 0
tally (flag ∷ flags) = if flag then 1 + tally flags else tally flags

-- the flag at each number that a job may have tells whether it is open, and there is room for all jobs
pub record AreFlagged (jobs : List ℕ) (flags : List Bool) (room : ℕ) : Type 0 where
  pub numbers : length flags ≡ 4097
  pub each : (n : ℕ) → n < 4097 → get_or flags n false ≡ is_open n jobs
  pub counted : length jobs ≤ tally flags
  pub roomy : 4097 ≤ room
