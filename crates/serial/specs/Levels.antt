-- How transactions begin, how deep they are, and how they end, in plain words.
use Rattle.std.specs.Prelude.{◌≡◌, ◌<◌, ◌≤◌, ◌⊎◌, ℕ, ◌+◌, ◌-◌, ◌^◌, min, false, List, [], ◌∷◌, ◌++◌, length, None, Some}
use Rattle.refusal.specs.declared.Refusal.TheVariants.{LevelTooDeep}
use Rattle.command.specs.declared.request.Command.{Command}
use Rattle.command.specs.declared.request.Command.TheVariants.{Start, Commit, Rollback, Restart, Level, Restarts, Halt}
use Rattle.command.specs.declared.request.Reply.{Reply}
use Rattle.command.specs.declared.request.Reply.TheVariants.{Finished, Count, AtLevel, Committed, Restarted, Refused}
use Rattle.lock_name.specs.Locks.{no_locks}
use Rattle.journal.specs.declared.unit.Unit.{Unit as JournalUnit}
use Rattle.journal.specs.declared.unit.Unit.TheVariants.{Whole, End}
use Rattle.journal.specs.History.{initial, after, all_after}
use Rattle.journal.specs.Story.{Transaction, Machine, nothing_done, transaction_of, story_of}
use Rattle.serial.specs.Machine.{seen_by, is_overtaken, reply_of, step_of, AreReplies}
use Rattle.serial.specs.Traces.{machine_map, job_locks}

-- ---- beginning

-- a transaction that begins after these units, restarted n times: at level 1, with nothing done; it sees what they leave, whatever follows
pub record IsAtItsStart (n : ℕ) (units : List JournalUnit) (t : Transaction) : Type 0 where
  pub level : t.level ≡ 1
  pub restarts : t.restarts ≡ n
  pub start : t.start ≡ length units
  pub exchanges : t.exchanges ≡ []
  pub took_lock : t.took_lock ≡ false
  pub sees : (later : List JournalUnit) → seen_by t (units ++ later) ≡ (after units initial).map

-- the job has a transaction, which begins now
abbrev pub BeginsNow : ℕ → ℕ → Machine → Type 0
BeginsNow job n s = (t : Transaction) × (transaction_of job s ≡ Some t) × IsAtItsStart n s.units t

-- TSTART outside a transaction
pub record StartsNow (job : ℕ) (s : Machine) : Type 0 where
  pub reply : reply_of job Start s ≡ AtLevel 1
  pub units : (step_of job Start s).units ≡ s.units
  pub begins : BeginsNow job 0 (step_of job Start s)

-- a restart, replied Restarted n
pub record RestartsNow (job n : ℕ) (t : Transaction) (after : Machine) : Type 0 where
  pub counted : n ≡ min (t.restarts + 1) (2 ^ 64 - 1)
  pub begins : BeginsNow job n after

-- what begins a transaction: TSTART outside one, TRESTART, and a TCOMMIT that was overtaken
pub record BeginningsTell (job : ℕ) (s : Machine) : Type 0 where
  pub start : transaction_of job s ≡ None → length s.units < 2 ^ 64 → StartsNow job s
  pub restart : (t : Transaction) (n : ℕ) → transaction_of job s ≡ Some t → reply_of job Restart s ≡ Restarted n → RestartsNow job n t (step_of job Restart s)
  pub refused_commit : (t : Transaction) (n : ℕ) → transaction_of job s ≡ Some t → reply_of job Commit s ≡ Restarted n → RestartsNow job n t (step_of job Commit s)

-- ---- levels

-- a step that is replied AtLevel n: the transaction goes on at that level and is otherwise as it was, and no unit is added
pub record IsAtLevel (job n : ℕ) (command : Command) (t : Transaction) (s : Machine) : Type 0 where
  pub reply : reply_of job command s ≡ AtLevel n
  pub units : (step_of job command s).units ≡ s.units
  pub transaction : transaction_of job (step_of job command s) ≡ Some (record t { level = n })

-- in a transaction: TSTART is one level deeper, up to 127, TCOMMIT at a level above 1 one less, and the level and the restarts can be asked for
pub record LevelsTell (job : ℕ) (t : Transaction) (s : Machine) : Type 0 where
  pub deeper : t.level < 127 → IsAtLevel job (t.level + 1) Start t s
  pub deepest : 127 ≤ t.level → reply_of job Start s ≡ Refused LevelTooDeep
  pub back : 1 < t.level → IsAtLevel job (t.level - 1) Commit t s
  pub level : reply_of job Level s ≡ Count t.level
  pub restarts : reply_of job Restarts s ≡ Count t.restarts

-- outside a transaction level and restarts are 0
pub record NoLevels (job : ℕ) (s : Machine) : Type 0 where
  pub level : reply_of job Level s ≡ Count 0
  pub restarts : reply_of job Restarts s ≡ Count 0

-- whatever the jobs were replied, an open transaction is at a level from 1 to 127
abbrev pub LevelsStayWithin : Type 0
LevelsStayWithin = (steps : List (ℕ × Command)) → (replies : List Reply) → AreReplies steps replies nothing_done →
    (job : ℕ) → (t : Transaction) → transaction_of job (story_of steps replies nothing_done) ≡ Some t → (1 ≤ t.level) × (t.level ≤ 127)

-- ---- ending

-- a commit: one unit with all that was done, no transaction, and the job holds what it wants
pub record CommitLeaves (job : ℕ) (t : Transaction) (s after : Machine) : Type 0 where
  pub outermost : t.level ≤ 1
  pub fresh : is_overtaken t s.units ≡ false
  pub units : after.units ≡ s.units ++ Whole job t.exchanges ∷ []
  pub map : machine_map after ≡ all_after t.exchanges (machine_map s)
  pub closed : transaction_of job after ≡ None
  pub locks : job_locks job after ≡ record { want = (job_locks job s).want; held = (job_locks job s).want; start = None }

-- a rollback: no transaction, and the database as it was
pub record RollbackLeaves (job : ℕ) (s after : Machine) : Type 0 where
  pub map : machine_map after ≡ machine_map s
  pub closed : transaction_of job after ≡ None

-- a HALT, in a transaction or not: one unit, no transaction, no locks, and the database as it was
pub record HaltLeaves (job : ℕ) (s after : Machine) : Type 0 where
  pub units : after.units ≡ s.units ++ End job ∷ []
  pub map : machine_map after ≡ machine_map s
  pub closed : transaction_of job after ≡ None
  pub locks : job_locks job after ≡ no_locks

-- one unit more is still within the limit
abbrev pub HasUnitsLeft : Machine → Type 0
HasUnitsLeft s = length s.units + 1 < 2 ^ 64

-- while there is room: a TCOMMIT at level 1 commits where nothing that was read was touched, and TROLLBACK and HALT are done
pub record EndsAreReplied (job : ℕ) (s : Machine) : Type 0 where
  pub commit : (t : Transaction) → transaction_of job s ≡ Some t → t.level ≤ 1 → is_overtaken t s.units ≡ false → reply_of job Commit s ≡ Committed
  pub rollback : (t : Transaction) → transaction_of job s ≡ Some t → reply_of job Rollback s ≡ Finished
  pub halt : reply_of job Halt s ≡ Finished

-- what ends a transaction, and nothing else does
pub record EndsTell (job : ℕ) (s : Machine) : Type 0 where
  pub replied : HasUnitsLeft s → EndsAreReplied job s
  pub commit : (t : Transaction) → transaction_of job s ≡ Some t → reply_of job Commit s ≡ Committed → CommitLeaves job t s (step_of job Commit s)
  pub rollback : reply_of job Rollback s ≡ Finished → RollbackLeaves job s (step_of job Rollback s)
  pub halt : reply_of job Halt s ≡ Finished → HaltLeaves job s (step_of job Halt s)
  pub alone : (t : Transaction) (q : ℕ) (command : Command) → transaction_of job s ≡ Some t → transaction_of job (step_of q command s) ≡ None →
      (q ≡ job) × ((command ≡ Commit) ⊎ ((command ≡ Rollback) ⊎ (command ≡ Halt)))
