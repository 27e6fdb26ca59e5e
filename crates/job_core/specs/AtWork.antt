-- Which jobs are at work, and that room is kept for the ends of these.
-- Read is_at_work, then AreKept.
use Rattle.std.specs.Prelude.{◌≡◌, ◌≤◌, ◌+◌, ℕ, Bool, true, false, not, ◌||◌, ◌&&◌, ◌==◌, List, [], ◌∷◌, get_or, is_some, Result, Ok, Err, if◌then◌else◌}
use Rattle.refusal.specs.declared.Refusal.{Refusal}
use Rattle.command.specs.declared.request.Reply.{Reply}
use Rattle.command.specs.declared.request.Reply.TheVariants.{Finished, Refused}
use Rattle.journal.specs.declared.unit.Unit.{Unit as JournalUnit}
use Rattle.journal.specs.declared.unit.Unit.TheVariants.{Lone, Whole, Lock, Back, End}
use Rattle.journal.specs.Story.{Machine, transaction_of}

-- from each unit of its own on a job works, up to the end of its session
abbrev pub works_after : ℕ → JournalUnit → Bool → Bool
works_after job (Lone q command answer) was = (q == job) || was
works_after job (Whole q exchanges) was = (q == job) || was
works_after job (Lock q inside command had) was = (q == job) || was
works_after job (Back q) was = (q == job) || was
works_after job (End q) was = not (q == job) && was

-- so after each of these
abbrev pub works_on : ℕ → List JournalUnit → Bool → Bool
works_on job [] was = was
works_on job (u ∷ us) was = works_on job us (works_after job u was)

-- the job has an open transaction, or a unit after the last end of its session
abbrev pub is_at_work : ℕ → Machine → Bool
is_at_work job s = is_some (transaction_of job s) || works_on job s.units false

-- how many flags are set
abbrev pub tally : List Bool → ℕ
tally [] = 0
tally (flag ∷ flags) = if flag then 1 + tally flags else tally flags

-- room is kept for as many ends as flags are set, and the flag of each job that is at work is set
pub record AreKept (flags : List Bool) (ends : ℕ) (s : Machine) : Type 0 where
  pub room : tally flags ≤ ends
  pub each : (job : ℕ) → 1 ≤ job → is_at_work job s ≡ true → get_or flags job false ≡ true

-- a HALT is done, or refused
abbrev pub ended_reply : Result (Unit {0}) Refusal → Reply
ended_reply (Ok done) = Finished
ended_reply (Err refusal) = Refused refusal
