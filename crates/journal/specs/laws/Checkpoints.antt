-- No step leaves a base in front of an open start, and a checkpoint moves it on.
use Rattle.std.proofs.Common.{◌≡◌, ◌≤◌, ℕ, Bool, true, false, [], ◌∷◌, length, refl, sym, subst, ◌∙◌, arith, length-append, inl, inr, cond}
use Rattle.std.specs.Prelude.{Option, Some, None}
use Rattle.std.specs.Ordering.{nat_cmp, eq_by_cmp}
use Rattle.std.specs.Cmp.{nat_cmp_total}
use Rattle.std.specs.FinMap as finmap
use Rattle.lock_name.specs.declared.lock.LockCommand.{LockCommand}
use Rattle.command.specs.declared.access.DataCommand.{DataCommand}
use Rattle.command.specs.declared.access.Answer.{Answer}
use Rattle.command.specs.declared.request.Command.{Command}
use Rattle.command.specs.declared.request.Command.TheVariants.{Access, Lock as lock_command, Start, Commit, Rollback, Restart, Level, Restarts, Halt}
use Rattle.command.specs.declared.request.Reply.{Reply}
use Rattle.command.specs.declared.request.Reply.TheVariants.{Answered, Finished, Had, Count, AtLevel, Committed, Restarted, Refused}
use Rattle.journal.specs.declared.unit.Unit.{Unit as JournalUnit}
use Rattle.journal.specs.declared.unit.Unit.TheVariants.{Whole, Lock, Back, End, Lone}
use Rattle.journal.specs.Story.{Transaction, Machine, transaction_of, add_unit, put_transaction, close, begin, told_answer, told_lock, told_level, told_commit, told_back, on_answered, on_finished, on_had, on_level, on_committed, on_restarted, told}
use Rattle.journal.specs.Checkpoints.{IsBehind, IsCheckpoint}

module _ (n : ℕ) where
  with_unit : (u : JournalUnit) (s : Machine) → IsBehind n s → IsBehind n (add_unit u s)
  with_unit u s h = let l = length-append s.units (u ∷ []) in let few = h.units in record { units = omega arith; starts = h.starts }

  with_open : (job : ℕ) (t : Transaction) (s : Machine) → IsBehind n s → n ≤ t.start → IsBehind n (put_transaction job t s)
  with_open job t s h from = record { units = h.units; starts = λ q v is. by_job q v (eq_by_cmp nat_cmp q job) (sym (finmap.get-insert nat_cmp_total s.transactions job t q) ∙ is) }
    where
      by_job : (q : ℕ) (v : Transaction) (b : Bool) → cond b (Some t) (finmap.get s.transactions q) ≡ Some v → n ≤ v.start
      by_job q v true is = let t_is : t ≡ v = cc in subst (λ (w : Transaction). n ≤ w.start) t_is from
      by_job q v false is = h.starts q v is

  closed : (job : ℕ) (s : Machine) → IsBehind n s → IsBehind n (close job s)
  closed job s h = record { units = h.units; starts = λ q v is. by_job q v (eq_by_cmp nat_cmp q job) (sym (finmap.get-remove nat_cmp_total s.transactions job q) ∙ is) }
    where
      by_job : (q : ℕ) (v : Transaction) (b : Bool) → cond b None (finmap.get s.transactions q) ≡ Some v → n ≤ v.start
      by_job q v true is = absurd (cc)
      by_job q v false is = h.starts q v is

  begun : (job restarts : ℕ) (s : Machine) → IsBehind n s → IsBehind n (begin job restarts s)
  begun job restarts s h = with_open job (record { level = 1; restarts = restarts; start = length s.units; exchanges = []; took_lock = false }) s h h.units

  answered : (job : ℕ) (command : DataCommand) (answer : Answer) (s : Machine) (o : Option Transaction) → transaction_of job s ≡ o → IsBehind n s → IsBehind n (told_answer job command answer o s)
  answered job command answer s None is h = with_unit (Lone job command answer) s h
  answered job command answer s (Some t) is h = with_open job _ s h (h.starts job t is)

  locked : (job : ℕ) (command : LockCommand) (had : Bool) (s : Machine) (o : Option Transaction) → transaction_of job s ≡ o → IsBehind n s → IsBehind n (told_lock job command had o s)
  locked job command had s None is h = with_unit (Lock job false command had) s h
  locked job command had s (Some t) is h = with_open job (record t { took_lock = true }) (add_unit (Lock job true command had) s) (with_unit (Lock job true command had) s h) (h.starts job t is)

  levelled : (job level : ℕ) (s : Machine) (o : Option Transaction) → transaction_of job s ≡ o → IsBehind n s → IsBehind n (told_level job level o s)
  levelled job level s None is h = begun job 0 s h
  levelled job level s (Some t) is h = with_open job (record t { level = level }) s h (h.starts job t is)

  committed : (job : ℕ) (s : Machine) (o : Option Transaction) → IsBehind n s → IsBehind n (told_commit job o s)
  committed job s None h = h
  committed job s (Some t) h = closed job (add_unit (Whole job t.exchanges) s) (with_unit (Whole job t.exchanges) s h)

  backed : (job : ℕ) (s : Machine) (o : Option Transaction) → IsBehind n s → IsBehind n (told_back job o s)
  backed job s None h = h
  backed job s (Some t) h = by_lock t.took_lock
    where
      by_lock : (b : Bool) → IsBehind n (cond b (add_unit (Back job) s) s)
      by_lock true = with_unit (Back job) s h
      by_lock false = h

  by_answer : (job : ℕ) (command : Command) (answer : Answer) (s : Machine) → IsBehind n s → IsBehind n (on_answered job command answer s)
  by_answer job (Access command) answer s h = answered job command answer s (transaction_of job s) refl h
  by_answer job (lock_command command) answer s h = h
  by_answer job Start answer s h = h
  by_answer job Commit answer s h = h
  by_answer job Rollback answer s h = h
  by_answer job Restart answer s h = h
  by_answer job Level answer s h = h
  by_answer job Restarts answer s h = h
  by_answer job Halt answer s h = h

  by_finish : (job : ℕ) (command : Command) (s : Machine) → IsBehind n s → IsBehind n (on_finished job command s)
  by_finish job (Access command) s h = h
  by_finish job (lock_command command) s h = locked job command true s (transaction_of job s) refl h
  by_finish job Start s h = h
  by_finish job Commit s h = h
  by_finish job Rollback s h = closed job (told_back job (transaction_of job s) s) (backed job s (transaction_of job s) h)
  by_finish job Restart s h = h
  by_finish job Level s h = h
  by_finish job Restarts s h = h
  by_finish job Halt s h = closed job (add_unit (End job) s) (with_unit (End job) s h)

  by_had : (job : ℕ) (command : Command) (had : Bool) (s : Machine) → IsBehind n s → IsBehind n (on_had job command had s)
  by_had job (Access command) had s h = h
  by_had job (lock_command command) had s h = locked job command had s (transaction_of job s) refl h
  by_had job Start had s h = h
  by_had job Commit had s h = h
  by_had job Rollback had s h = h
  by_had job Restart had s h = h
  by_had job Level had s h = h
  by_had job Restarts had s h = h
  by_had job Halt had s h = h

  by_level : (job : ℕ) (command : Command) (level : ℕ) (s : Machine) → IsBehind n s → IsBehind n (on_level job command level s)
  by_level job (Access command) level s h = h
  by_level job (lock_command command) level s h = h
  by_level job Start level s h = levelled job level s (transaction_of job s) refl h
  by_level job Commit level s h = levelled job level s (transaction_of job s) refl h
  by_level job Rollback level s h = h
  by_level job Restart level s h = h
  by_level job Level level s h = h
  by_level job Restarts level s h = h
  by_level job Halt level s h = h

  by_commit : (job : ℕ) (command : Command) (s : Machine) → IsBehind n s → IsBehind n (on_committed job command s)
  by_commit job (Access command) s h = h
  by_commit job (lock_command command) s h = h
  by_commit job Start s h = h
  by_commit job Commit s h = committed job s (transaction_of job s) h
  by_commit job Rollback s h = h
  by_commit job Restart s h = h
  by_commit job Level s h = h
  by_commit job Restarts s h = h
  by_commit job Halt s h = h

  by_restart : (job : ℕ) (command : Command) (restarts : ℕ) (s : Machine) → IsBehind n s → IsBehind n (on_restarted job command restarts s)
  by_restart job (Access command) restarts s h = h
  by_restart job (lock_command command) restarts s h = h
  by_restart job Start restarts s h = h
  by_restart job Commit restarts s h = begun job restarts (told_back job (transaction_of job s) s) (backed job s (transaction_of job s) h)
  by_restart job Rollback restarts s h = h
  by_restart job Restart restarts s h = begun job restarts (told_back job (transaction_of job s) s) (backed job s (transaction_of job s) h)
  by_restart job Level restarts s h = h
  by_restart job Restarts restarts s h = h
  by_restart job Halt restarts s h = h

  -- whatever a step is replied
  pub stays_behind : (job : ℕ) (command : Command) (reply : Reply) (s : Machine) → IsBehind n s → IsBehind n (told job command reply s)
  stays_behind job command (Refused refusal) s h = h
  stays_behind job command (Answered answer) s h = by_answer job command answer s h
  stays_behind job command Finished s h = by_finish job command s h
  stays_behind job command (Had had) s h = by_had job command had s h
  stays_behind job command (Count count) s h = h
  stays_behind job command (AtLevel level) s h = by_level job command level s h
  stays_behind job command Committed s h = by_commit job command s h
  stays_behind job command (Restarted restarts) s h = by_restart job command restarts s h

-- a checkpoint moves a base on, never back
pub moves_on : (b n : ℕ) (s : Machine) → IsBehind b s → IsCheckpoint n s → b ≤ n
moves_on b n s h (inl none) = let few : b ≤ length s.units = h.units in let e : n ≡ length s.units = none.1 in omega arith
moves_on b n s h (inr least) = let from : b ≤ least.transaction.start = h.starts least.job least.transaction least.there in let e : least.transaction.start ≡ n = least.start in omega arith

-- and where transactions began among the units, it stands behind all of them again
pub stands_behind : (n : ℕ) (s : Machine) → ((job : ℕ) (t : Transaction) → transaction_of job s ≡ Some t → t.start ≤ length s.units) → IsCheckpoint n s → IsBehind n s
stands_behind n s within (inl none) = record { units = let e : n ≡ length s.units = none.1 in omega arith; starts = λ job t is. let no : None ≡ Some t = sym (none.0 job) ∙ is in absurd (cc) }
stands_behind n s within (inr least) = record { units = let w : least.transaction.start ≤ length s.units = within least.job least.transaction least.there in let e : least.transaction.start ≡ n = least.start in omega arith; starts = least.from }
