-- What a look sees: the database of a moment.
-- Read database_at, then unseen.
use Rattle.std.specs.Prelude.{◌≡◌, ℕ, ◌==◌, nat_le, if◌then◌else◌, Option, Some, None, Result, Ok, Err}
use Rattle.refusal.specs.declared.Refusal.{Refusal}
use Rattle.refusal.specs.declared.Refusal.TheVariants.{BadJob, NoTransaction}
use Rattle.collation.specs.Database.{Database}
use Rattle.collation.specs.Limits.{most_jobs}
use Rattle.journal.specs.History.{initial, after}
use Rattle.journal.specs.Story.{Machine}
use Rattle.job_core.specs.Views.{view_of}

-- at moment 0 the database as it is now; at a job's number that with which its open transaction began, where one is open
abbrev pub database_at : ℕ → Machine → Option Database
database_at moment s = if moment == 0 then Some (after s.units initial).map else (if nat_le moment most_jobs then view_of moment s else None)

-- why nothing is seen at a moment: no job has that number, or its job has no open transaction
abbrev pub unseen : ℕ → Refusal
unseen moment = if nat_le moment most_jobs then NoTransaction else BadJob

-- that database, or why there is none
abbrev pub IsSeen : ℕ → Machine → Result Database Refusal → Type 0
IsSeen moment s (Ok m) = database_at moment s ≡ Some m
IsSeen moment s (Err refusal) = (database_at moment s ≡ None) × (refusal ≡ unseen moment)
