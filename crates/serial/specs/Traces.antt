-- What a transaction that is rolled back or restarted, or ended by HALT, leaves of itself.
use Rattle.std.specs.Prelude.{◌≡◌, ℕ, Bool, true, false, not, ◌||◌, ◌==◌, List, [], ◌∷◌, ◌++◌, length, drop, None, is_some}
use Rattle.command.specs.declared.request.Command.{Command}
use Rattle.command.specs.declared.request.Command.TheVariants.{Start, Commit, Rollback, Restart, Halt}
use Rattle.command.specs.declared.request.Reply.TheVariants.{Finished, Restarted}
use Rattle.collation.specs.Database.{Database}
use Rattle.lock_name.specs.Locks.{JobLocks, no_locks, locks_of}
use Rattle.std.specs.List.{list_all}
use Rattle.journal.specs.Kept.{job_of}
use Rattle.journal.specs.declared.unit.Unit.{Unit as JournalUnit}
use Rattle.journal.specs.declared.unit.Unit.TheVariants.{Lone, Whole, Lock, Back, End}
use Rattle.journal.specs.History.{initial, after}
use Rattle.journal.specs.Story.{Machine, nothing_done, transaction_of}
use Rattle.serial.specs.Machine.{reply_of, step_of, run_of}

-- the database that the machine's units leave
abbrev pub machine_map : Machine → Database
machine_map s = (after s.units initial).map

-- a job's locks after the machine's units
abbrev pub job_locks : ℕ → Machine → JobLocks
job_locks job s = locks_of job (after s.units initial).locks

-- the job's transaction is open and stays so while these steps are done
abbrev pub StaysOpen : ℕ → List (ℕ × Command) → Machine → Type 0
StaysOpen job [] s = is_some (transaction_of job s) ≡ true
StaysOpen job (step ∷ steps) s = (is_some (transaction_of job s) ≡ true) × StaysOpen job steps (step_of step.0 step.1 s)

-- a LOCK, or its undoing
abbrev pub is_lock_or_back : JournalUnit → Bool
is_lock_or_back (Lone job command answer) = false
is_lock_or_back (Whole job exchanges) = false
is_lock_or_back (Lock job inside command had) = true
is_lock_or_back (Back job) = true
is_lock_or_back (End job) = false

-- the job's units among these are LOCKs and their undoing
abbrev pub only_locks : ℕ → List JournalUnit → Bool
only_locks job us = list_all (λ u. not (job_of u == job) || is_lock_or_back u) us

-- from s on no data command of the job stands among the units; a step from t leaves the database as it was at t, and the job's locks as they were at s
pub record IsUndone (job : ℕ) (s t after : Machine) : Type 0 where
  pub units : only_locks job (drop (length s.units) after.units) ≡ true
  pub map : machine_map after ≡ machine_map t
  pub locks : job_locks job after ≡ job_locks job s

-- from s on no data command of the job stands among the units; HALT at t is one unit more, leaves the database as it was, and the job without locks and transaction
pub record IsHalted (job : ℕ) (s t after : Machine) : Type 0 where
  pub before : only_locks job (drop (length s.units) t.units) ≡ true
  pub units : after.units ≡ t.units ++ End job ∷ []
  pub map : machine_map after ≡ machine_map t
  pub locks : job_locks job after ≡ no_locks
  pub closed : transaction_of job after ≡ None

-- a transaction that began at s and is open at t is undone where it is rolled back or restarted, and gone after HALT
pub record LeavesNoTrace (job : ℕ) (s t : Machine) : Type 0 where
  pub rollback : reply_of job Rollback t ≡ Finished → IsUndone job s t (step_of job Rollback t)
  pub restart : (n : ℕ) → reply_of job Restart t ≡ Restarted n → IsUndone job s t (step_of job Restart t)
  pub refused_commit : (n : ℕ) → reply_of job Commit t ≡ Restarted n → IsUndone job s t (step_of job Commit t)
  pub halt : reply_of job Halt t ≡ Finished → IsHalted job s t (step_of job Halt t)

-- from the outermost TSTART on, whatever the jobs do meanwhile
abbrev pub BackedTransactionsLeaveNoTrace : Type 0
BackedTransactionsLeaveNoTrace = (before more : List (ℕ × Command)) → (job : ℕ) →
    transaction_of job (run_of before nothing_done) ≡ None → StaysOpen job more (step_of job Start (run_of before nothing_done)) →
    LeavesNoTrace job (run_of before nothing_done) (run_of more (step_of job Start (run_of before nothing_done)))
