-- One interleaving of what all jobs were answered. A law for engines of many threads, where a job knows what it was
-- answered and at which place of the journal, and not when others were.
-- Read Told, IsToldAt, IsHistory, AreWritten and IsOneRun, then OneInterleaving.
use Rattle.std.specs.Prelude.{◌≡◌, ◌⊎◌, ⊤, ℕ, ◌+◌, ◌≤◌, ◌<◌, ◌==◌, List, [], ◌∷◌, ◌++◌, length, take, map, Some, slice_get, if◌then◌else◌}
use Rattle.command.specs.declared.request.Command.{Command}
use Rattle.command.specs.declared.request.Reply.{Reply}
use Rattle.journal.specs.declared.unit.Unit.{Unit as JournalUnit}
use Rattle.std.specs.List.{sum_by}
use Rattle.journal.specs.Kept.{Claim, claims_of, job_of}
use Rattle.journal.specs.Story.{Machine, nothing_done, told, story_of}
use Rattle.serial.specs.Machine.{IsReply, AreReplies}

-- a command of a job and its reply, how many units of the journal stood when it was done, and how many stood behind it
pub record Told : Type 0 where
  pub job : ℕ
  pub command : Command
  pub reply : Reply
  pub at : ℕ
  pub upto : ℕ

-- what was asked, and what was answered
abbrev pub step_in : Told → ℕ × Command
step_in x = (x.job, x.command)

abbrev pub reply_in : Told → Reply
reply_in x = x.reply

-- what one job was told, in order
abbrev pub of_job : ℕ → List Told → List Told
of_job job [] = []
of_job job (x ∷ xs) = if x.job == job then x ∷ of_job job xs else of_job job xs

-- a job's own machine, when so many units of the journal stand
abbrev pub standing : ℕ → List JournalUnit → Machine → Machine
standing n log s = record { units = take n log; transactions = s.transactions }

-- what it changes of the job's machine there
abbrev pub after_told : List JournalUnit → Machine → Told → Machine
after_told log s x = told x.job x.command x.reply (standing x.at log s)

-- the unit of this place is the job's
abbrev pub IsUnitOf : List JournalUnit → ℕ → ℕ → Type 0
IsUnitOf log k job = (u : JournalUnit) × (slice_get log k ≡ Some u) × (job_of u ≡ job)

-- at its place the reply is the machine's, and what it writes stands there
pub record IsToldAt (log : List JournalUnit) (n : ℕ) (s : Machine) (x : Told) : Type 0 where
  pub from : n ≤ x.at
  pub within : x.upto ≤ length log
  pub one : (x.upto ≡ x.at) ⊎ (x.upto ≡ x.at + 1)
  pub reply : IsReply x.job x.command x.reply (standing x.at log s)
  pub units : (after_told log s x).units ≡ take x.upto log
  pub own : x.upto ≡ x.at + 1 → IsUnitOf log x.at x.job

-- a job's replies are those of its own machine, in which the units of the others come in between
abbrev pub IsHistory : List JournalUnit → ℕ → ℕ → Machine → List Told → Type 0
IsHistory log job n s [] = ⊤
IsHistory log job n s (x ∷ xs) = (x.job ≡ job) × IsToldAt log n s x × IsHistory log job x.upto (after_told log s x) xs

-- the unit of this place was written by one of these
abbrev pub IsWritten : ℕ → List Told → Type 0
IsWritten k [] = ⊥
IsWritten k (x ∷ xs) = ((x.at ≡ k) × (x.upto ≡ k + 1)) ⊎ IsWritten k xs

-- each unit of the journal from this place on was
abbrev pub AreWritten : List JournalUnit → ℕ → List Told → Type 0
AreWritten log n xs = (k : ℕ) → n ≤ k → k < length log → IsWritten k xs

-- these are steps of the exact machine from s on, with these replies, and the units are their story
pub record IsOneRun (log : List JournalUnit) (s : Machine) (xs : List Told) : Type 0 where
  pub replies : AreReplies (map step_in xs) (map reply_in xs) s
  pub story : (story_of (map step_in xs) (map reply_in xs) s).units ≡ log

-- what the jobs were told, each by its own history, and who wrote each unit: then there is one list of steps of the exact
-- machine from nothing, each job's in its order, with these replies, of which the journal is the story
abbrev pub OneInterleaving : Type 0
OneInterleaving = (log : List JournalUnit) → (xs : List Told) → ((job : ℕ) → IsHistory log job 0 nothing_done (of_job job xs)) → AreWritten log 0 xs →
    (ys : List Told) × ((job : ℕ) → of_job job ys ≡ of_job job xs) × IsOneRun log nothing_done ys

-- these are the units of the journal, each at its number once
abbrev pub AreAllClaims : List JournalUnit → List Claim → Type 0
AreAllClaims log mine = (h : Claim → ℕ) → sum_by h mine ≡ sum_by h (claims_of 1 log)

-- a unit of this number was written by one of these
abbrev pub IsClaimed : ℕ → List Claim → Type 0
IsClaimed n [] = ⊥
IsClaimed n (c ∷ cs) = (c.number ≡ n) ⊎ IsClaimed n cs

-- where the slips are all units, each place has its unit on one of them
abbrev pub EachIsClaimed : Type 0
EachIsClaimed = (log : List JournalUnit) → (mine : List Claim) → AreAllClaims log mine → (k : ℕ) → k < length log → IsClaimed (k + 1) mine

-- how many units stood behind the last, and the job's machine then
abbrev pub upto_of : ℕ → List Told → ℕ
upto_of n [] = n
upto_of n (x ∷ xs) = upto_of x.upto xs

abbrev pub after_all_told : List JournalUnit → Machine → List Told → Machine
after_all_told log s [] = s
after_all_told log s (x ∷ xs) = after_all_told log (after_told log s x) xs

-- a history is so on each journal that goes on from the one it was told on, and grows step by step
pub record HistoriesGrow (log : List JournalUnit) (job n : ℕ) (s : Machine) (xs : List Told) : Type 0 where
  pub longer : (more : List JournalUnit) → IsHistory log job n s xs → IsHistory (log ++ more) job n s xs
  pub machine : (more : List JournalUnit) → IsHistory log job n s xs → after_all_told (log ++ more) s xs ≡ after_all_told log s xs
  pub push : (x : Told) → IsHistory log job n s xs → x.job ≡ job → IsToldAt log (upto_of n xs) (after_all_told log s xs) x → IsHistory log job n s (xs ++ x ∷ [])
