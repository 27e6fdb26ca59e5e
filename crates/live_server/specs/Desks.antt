-- The lines that wait, job by job.
use Rattle.std.specs.Prelude.{◌≡◌, ◌==◌, ◌&&◌, ℕ, Bool, true, false, List, [], ◌∷◌, ◌++◌, length, drop, get_or, Option, None, Some, if◌then◌else◌}
use Rattle.std.specs.List.{All, list_all}
use Rattle.script.specs.Line.{job_of_line}

-- a job's lines that wait, in their order, and whether the first was tried in vain
pub record DeskShown : Type 0 where
  pub lines : List (List ℕ)
  pub was_tried : Bool

abbrev pub no_lines : DeskShown
no_lines = record { lines = []; was_tried = false }

abbrev pub desk_of : List DeskShown → ℕ → DeskShown
desk_of desks job = get_or desks job no_lines

-- there is one for each number that a job may have, and its lines are of its job
pub record AreDesks (desks : List DeskShown) : Type 0 where
  pub count : length desks ≡ 4097
  pub own : (job : ℕ) → All (λ line. job_of_line line ≡ Some job) (desk_of desks job).lines

-- one desk has changed so, and no other has
abbrev pub HasChangedAt : ℕ → (DeskShown → DeskShown) → List DeskShown → List DeskShown → Type 0
HasChangedAt job change old new = (other : ℕ) → desk_of new other ≡ (if other == job then change (desk_of old other) else desk_of old other)

-- some line waits
abbrev pub has_lines : List (List ℕ) → Bool
has_lines [] = false
has_lines (line ∷ lines) = true

-- each of these jobs has a line that waits
abbrev pub all_wait : List DeskShown → List ℕ → Bool
all_wait desks jobs = list_all (λ job. has_lines (desk_of desks job).lines) jobs

-- a line comes behind the others
abbrev pub pushed : List ℕ → DeskShown → DeskShown
pushed line d = record { lines = d.lines ++ line ∷ []; was_tried = d.was_tried && has_lines d.lines }

-- the first is done
abbrev pub passed : DeskShown → DeskShown
passed d = record { lines = drop 1 d.lines; was_tried = false }

-- the first was tried in vain
abbrev pub tried : DeskShown → DeskShown
tried d = record { lines = d.lines; was_tried = true }

-- the lines of this job that wait; those without a job never do
abbrev pub queued : Option ℕ → List DeskShown → List (List ℕ)
queued None desks = []
queued (Some job) desks = (desk_of desks job).lines

abbrev pub first_of : List (List ℕ) → Option (List ℕ)
first_of [] = None
first_of (line ∷ lines) = Some line

abbrev pub first_tried : DeskShown → Option (List ℕ)
first_tried d = if d.was_tried then first_of d.lines else None

-- the line of this job that was tried in vain
abbrev pub waiting_at : Option ℕ → List DeskShown → Option (List ℕ)
waiting_at None desks = None
waiting_at (Some job) desks = first_tried (desk_of desks job)
