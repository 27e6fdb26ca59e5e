-- What a transaction leaves of itself where it is rolled back or restarted.
use Rattle.std.proofs.Common.{◌≡◌, ◌≤◌, ℕ, ◌+◌, Bool, true, false, List, [], ◌∷◌, ◌++◌, length, drop, refl, sym, ap, subst, ◌∙◌, inl, inr, arith, length-append}
use Rattle.std.proofs.lemmas.Bool.{and_from, or_left, or_right}
use Rattle.std.proofs.lemmas.List.{drop-append-le}
use Rattle.std.proofs.Math.Seq.{drop-length}
use Rattle.std.proofs.lemmas.List.Folds.{list_all-append}
use Rattle.std.specs.Prelude.{◌==◌, ◌||◌, not, cond, Option, Some, None, is_some, unwrap_or}
use Rattle.std.specs.Ordering.{nat_cmp}
use Rattle.std.specs.FinMap as finmap
use Rattle.lock_name.specs.laws.Blocking.{differ}
use Rattle.command.specs.declared.access.DataCommand.{DataCommand}
use Rattle.command.specs.declared.access.Answer.{Answer}
use Rattle.command.specs.declared.request.Command.{Command}
use Rattle.command.specs.declared.request.Command.TheVariants.{Access, Lock as lock_command, Start, Commit, Rollback, Restart, Halt}
use Rattle.command.specs.declared.request.Reply.{Reply}
use Rattle.command.specs.declared.request.Reply.TheVariants.{Answered, Finished, Had, AtLevel, Committed, Restarted, Refused}
use Rattle.lock_name.specs.declared.lock.LockCommand.{LockCommand}
use Rattle.lock_name.specs.Locks.{Counts, JobLocks, no_locks, locks_of, job_wants, job_commits, job_goes_back, want_after}
use Rattle.journal.specs.Kept.{job_of}
use Rattle.journal.specs.declared.unit.Unit.{Unit as JournalUnit}
use Rattle.journal.specs.declared.unit.Unit.TheVariants.{Lone, Whole, Lock, Back, End}
use Rattle.journal.specs.History.{State, initial, after, after_unit}
use Rattle.journal.specs.laws.History.{after-append}
use Rattle.journal.specs.Story.{Transaction, Machine, nothing_done, transaction_of, add_unit, put_transaction, close, begin, told_answer, told_lock, told_level, told_commit, told_back, told}
use Rattle.serial.specs.laws.ByJob.{same_or_not, get_here, get_apart, gone_here, gone_apart, locks_put, locks_put_apart, locks_gone, locks_gone_apart, no_locks_yet, locks_changed, locks_changed_apart}
use Rattle.serial.specs.Machine.{reply_of, step_of, run_of}
use Rattle.serial.specs.Traces.{machine_map, job_locks, StaysOpen, LeavesNoTrace, BackedTransactionsLeaveNoTrace, IsUndone, IsHalted, is_lock_or_back, only_locks}

-- a unit of another job leaves a job's locks as they are
pub other_unit : (u : JournalUnit) (s : State) (job : ℕ) → (job ≡ job_of u → ⊥) → locks_of job (after_unit u s).locks ≡ locks_of job s.locks
other_unit (Lone q command answer) s job ne = refl
other_unit (Whole q exchanges) s job ne = locks_changed_apart job_commits s.locks q job ne
other_unit (Lock q inside command had) s job ne = locks_put_apart s.locks q _ job ne
other_unit (Back q) s job ne = locks_changed_apart job_goes_back s.locks q job ne
other_unit (End q) s job ne = locks_gone_apart s.locks q job ne

-- one more unit
pub one_more : (u : JournalUnit) (s : Machine) (job : ℕ) → job_locks job (add_unit u s) ≡ locks_of job (after_unit u (after s.units initial)).locks
one_more u s job = ap (λ st. locks_of job st.locks) (after-append s.units (u ∷ []) initial)

-- ---- another job's step

pub record IsAlike (job : ℕ) (s t : Machine) : Type 0 where
  pub transaction : transaction_of job t ≡ transaction_of job s
  pub locks : job_locks job t ≡ job_locks job s

alike_itself : (job : ℕ) (s : Machine) → IsAlike job s s
alike_itself job s = record { transaction = refl; locks = refl }

alike_then : (job : ℕ) (s t v : Machine) → IsAlike job s t → IsAlike job t v → IsAlike job s v
alike_then job s t v a b = record { transaction = b.transaction ∙ a.transaction; locks = b.locks ∙ a.locks }

alike_unit : (job : ℕ) (u : JournalUnit) (s : Machine) → (job ≡ job_of u → ⊥) → IsAlike job s (add_unit u s)
alike_unit job u s ne = record { transaction = refl; locks = one_more u s job ∙ other_unit u (after s.units initial) job ne }

alike_put : (job q : ℕ) (t : Transaction) (s : Machine) → (job ≡ q → ⊥) → IsAlike job s (put_transaction q t s)
alike_put job q t s ne = record { transaction = get_apart s.transactions q t job ne; locks = refl }

alike_closed : (job q : ℕ) (s : Machine) → (job ≡ q → ⊥) → IsAlike job s (close q s)
alike_closed job q s ne = record { transaction = gone_apart s.transactions q job ne; locks = refl }

module _ (job q : ℕ) (ne : job ≡ q → ⊥) where
  alike_answer : (command : DataCommand) (answer : Answer) (o : Option Transaction) (s : Machine) → IsAlike job s (told_answer q command answer o s)
  alike_answer command answer None s = alike_unit job (Lone q command answer) s ne
  alike_answer command answer (Some t) s = alike_put job q _ s ne

  alike_lock : (command : LockCommand) (had : Bool) (o : Option Transaction) (s : Machine) → IsAlike job s (told_lock q command had o s)
  alike_lock command had None s = alike_unit job (Lock q false command had) s ne
  alike_lock command had (Some t) s = alike_then job s (add_unit (Lock q true command had) s) _ (alike_unit job (Lock q true command had) s ne) (alike_put job q _ (add_unit (Lock q true command had) s) ne)

  alike_level : (level : ℕ) (o : Option Transaction) (s : Machine) → IsAlike job s (told_level q level o s)
  alike_level level None s = alike_put job q _ s ne
  alike_level level (Some t) s = alike_put job q _ s ne

  alike_commit : (o : Option Transaction) (s : Machine) → IsAlike job s (told_commit q o s)
  alike_commit None s = alike_itself job s
  alike_commit (Some t) s = alike_then job s (add_unit (Whole q t.exchanges) s) _ (alike_unit job (Whole q t.exchanges) s ne) (alike_closed job q (add_unit (Whole q t.exchanges) s) ne)

  alike_back : (o : Option Transaction) (s : Machine) → IsAlike job s (told_back q o s)
  alike_back None s = alike_itself job s
  alike_back (Some t) s = elim t.took_lock as (λ b. IsAlike job s (cond b (add_unit (Back q) s) s)) [ true ↦ alike_unit job (Back q) s ne | false ↦ alike_itself job s ]

  alike_begun : (restarts : ℕ) (o : Option Transaction) (s : Machine) → IsAlike job s (begin q restarts (told_back q o s))
  alike_begun restarts o s = alike_then job s (told_back q o s) _ (alike_back o s) (alike_put job q _ (told_back q o s) ne)

  pub alike_told : (command : Command) (reply : Reply) (s : Machine) → IsAlike job s (told q command reply s)
  alike_told command (Refused refusal) s = alike_itself job s
  alike_told (Access command) (Answered answer) s = alike_answer command answer (transaction_of q s) s
  alike_told (lock_command command) (Had had) s = alike_lock command had (transaction_of q s) s
  alike_told (lock_command command) Finished s = alike_lock command true (transaction_of q s) s
  alike_told Start (AtLevel level) s = alike_level level (transaction_of q s) s
  alike_told Commit (AtLevel level) s = alike_level level (transaction_of q s) s
  alike_told Commit Committed s = alike_commit (transaction_of q s) s
  alike_told Commit (Restarted restarts) s = alike_begun restarts (transaction_of q s) s
  alike_told Restart (Restarted restarts) s = alike_begun restarts (transaction_of q s) s
  alike_told Rollback Finished s = alike_then job s (told_back q (transaction_of q s) s) _ (alike_back (transaction_of q s) s) (alike_closed job q (told_back q (transaction_of q s) s) ne)
  alike_told Halt Finished s = alike_then job s (add_unit (End q) s) _ (alike_unit job (End q) s ne) (alike_closed job q (add_unit (End q) s) ne)
  alike_told command reply s = alike_itself job s

-- ---- the job's own step, in a transaction

-- outside a transaction a job holds what it wants, and no start is remembered
record IsAtRest (l : JobLocks) : Type 0 where
  held : l.held ≡ l.want
  start : l.start ≡ None

-- locks that were `before` at the start of a transaction: as they were, or with what was wanted then remembered once a LOCK was taken
abbrev IsKept : Bool → JobLocks → JobLocks → Type 0
IsKept false before l = l ≡ before
IsKept true before l = l.start ≡ Some before.want

-- at the end of a step of a transaction: still open and kept, or closed and at rest
abbrev GoesOn : JobLocks → Option Transaction → JobLocks → Type 0
GoesOn before (Some t) l = IsKept t.took_lock before l
GoesOn before None l = IsAtRest l

Goes : JobLocks → ℕ → Machine → Type 0
Goes before job s = GoesOn before (transaction_of job s) (job_locks job s)

same_locks : (l before : JobLocks) → l.want ≡ before.want → l.held ≡ before.held → l.start ≡ before.start → l ≡ before
same_locks l before w h s = λ i. record { want = w i; held = h i; start = s i }

-- what was kept comes back
goes_back : (before l : JobLocks) → IsAtRest before → l.start ≡ Some before.want → job_goes_back l ≡ before
goes_back before l rest kept =
    same_locks (job_goes_back l) before (ap (λ o. unwrap_or o l.want) kept) (ap (λ o. unwrap_or o l.held) kept ∙ sym rest.held) (sym rest.start)

no_locks_rest : IsAtRest no_locks
no_locks_rest = record { held = refl; start = refl }

module _ (before : JobLocks) (rest : IsAtRest before) (job : ℕ) where
  goes_put : (t : Transaction) (s : Machine) → IsKept t.took_lock before (job_locks job s) → Goes before job (put_transaction job t s)
  unfolding Goes
  goes_put t s kept = subst (λ o. GoesOn before o (job_locks job s)) (sym (get_here s.transactions job t)) kept

  goes_closed : (s : Machine) → IsAtRest (job_locks job s) → Goes before job (close job s)
  unfolding Goes
  goes_closed s at_rest = subst (λ o. GoesOn before o (job_locks job s)) (sym (gone_here s.transactions job)) at_rest

  goes_as : (t : Transaction) (s : Machine) → transaction_of job s ≡ Some t → IsKept t.took_lock before (job_locks job s) → Goes before job s
  unfolding Goes
  goes_as t s is kept = subst (λ o. GoesOn before o (job_locks job s)) (sym is) kept

  -- a LOCK in the transaction
  locked : (b : Bool) (l : JobLocks) (want : Counts) → IsKept b before l → (job_wants true want l).start ≡ Some before.want
  locked true l want kept = ap (λ o. Some (unwrap_or o l.want)) kept
  locked false l want kept = ap (λ (k : JobLocks). Some (unwrap_or k.start k.want)) kept ∙ ap (λ o. Some (unwrap_or o before.want)) rest.start

  locks_back : (t : Transaction) (s : Machine) → IsKept t.took_lock before (job_locks job s) → job_locks job (told_back job (Some t) s) ≡ before
  locks_back t s kept = by_lock t.took_lock kept
    where
      by_lock : (b : Bool) → IsKept b before (job_locks job s) → job_locks job (cond b (add_unit (Back job) s) s) ≡ before
      by_lock true kept = one_more (Back job) s job ∙ locks_changed job_goes_back (after s.units initial).locks job refl ∙ goes_back before (job_locks job s) rest kept
      by_lock false kept = kept

  goes_answer : (command : DataCommand) (answer : Answer) (t : Transaction) (s : Machine) → IsKept t.took_lock before (job_locks job s) → Goes before job (told_answer job command answer (Some t) s)
  goes_answer command answer t s kept = goes_put _ s kept

  goes_lock : (command : LockCommand) (had : Bool) (t : Transaction) (s : Machine) → IsKept t.took_lock before (job_locks job s) → Goes before job (told_lock job command had (Some t) s)
  goes_lock command had t s kept =
      let left = one_more (Lock job true command had) s job ∙ (locks_put (after s.units initial).locks job (job_wants true (want_after job command (after s.units initial).locks) (job_locks job s))) in
      goes_put (record t { took_lock = true }) (add_unit (Lock job true command had) s) (ap (λ (l : JobLocks). l.start) left ∙ locked t.took_lock (job_locks job s) (want_after job command (after s.units initial).locks) kept)

  goes_level : (level : ℕ) (t : Transaction) (s : Machine) → IsKept t.took_lock before (job_locks job s) → Goes before job (told_level job level (Some t) s)
  goes_level level t s kept = goes_put (record t { level = level }) s kept

  committed_rest : (l : JobLocks) → IsAtRest (job_commits l)
  committed_rest l = record { held = refl; start = refl }

  goes_commit : (t : Transaction) (s : Machine) → Goes before job (told_commit job (Some t) s)
  goes_commit t s =
      let left = one_more (Whole job t.exchanges) s job ∙ locks_changed job_commits (after s.units initial).locks job refl in
      goes_closed (add_unit (Whole job t.exchanges) s) (subst IsAtRest (sym left) (committed_rest (job_locks job s)))

  goes_begun : (restarts : ℕ) (t : Transaction) (s : Machine) → IsKept t.took_lock before (job_locks job s) → Goes before job (begin job restarts (told_back job (Some t) s))
  goes_begun restarts t s kept = goes_put _ (told_back job (Some t) s) (locks_back t s kept)

  goes_rollback : (t : Transaction) (s : Machine) → IsKept t.took_lock before (job_locks job s) → Goes before job (close job (told_back job (Some t) s))
  goes_rollback t s kept = goes_closed (told_back job (Some t) s) (subst IsAtRest (sym (locks_back t s kept)) rest)

  goes_halt : (s : Machine) → Goes before job (close job (add_unit (End job) s))
  goes_halt s =
      let left = one_more (End job) s job ∙ locks_gone (after s.units initial).locks job in
      goes_closed (add_unit (End job) s) (subst IsAtRest (sym left) no_locks_rest)

  goes_told : (command : Command) (reply : Reply) (t : Transaction) (s : Machine) → transaction_of job s ≡ Some t → IsKept t.took_lock before (job_locks job s) → Goes before job (told job command reply s)
  goes_told command (Refused refusal) t s is kept = goes_as t s is kept
  goes_told (Access command) (Answered answer) t s is kept = subst (λ o. Goes before job (told_answer job command answer o s)) (sym is) (goes_answer command answer t s kept)
  goes_told (lock_command command) (Had had) t s is kept = subst (λ o. Goes before job (told_lock job command had o s)) (sym is) (goes_lock command had t s kept)
  goes_told (lock_command command) Finished t s is kept = subst (λ o. Goes before job (told_lock job command true o s)) (sym is) (goes_lock command true t s kept)
  goes_told Start (AtLevel level) t s is kept = subst (λ o. Goes before job (told_level job level o s)) (sym is) (goes_level level t s kept)
  goes_told Commit (AtLevel level) t s is kept = subst (λ o. Goes before job (told_level job level o s)) (sym is) (goes_level level t s kept)
  goes_told Commit Committed t s is kept = subst (λ o. Goes before job (told_commit job o s)) (sym is) (goes_commit t s)
  goes_told Commit (Restarted restarts) t s is kept = subst (λ o. Goes before job (begin job restarts (told_back job o s))) (sym is) (goes_begun restarts t s kept)
  goes_told Restart (Restarted restarts) t s is kept = subst (λ o. Goes before job (begin job restarts (told_back job o s))) (sym is) (goes_begun restarts t s kept)
  goes_told Rollback Finished t s is kept = subst (λ o. Goes before job (close job (told_back job o s))) (sym is) (goes_rollback t s kept)
  goes_told Halt Finished t s is kept = goes_halt s
  goes_told command reply t s is kept = goes_as t s is kept

-- ---- outside a transaction

-- outside a transaction the job's locks are at rest, and in one they are kept from locks that were
abbrev Resting : Option Transaction → JobLocks → Type 0
Resting None l = IsAtRest l
Resting (Some t) l = (before : JobLocks) × IsAtRest before × IsKept t.took_lock before l

Rests : ℕ → Machine → Type 0
Rests job s = Resting (transaction_of job s) (job_locks job s)

rests_goes : (before : JobLocks) (job : ℕ) (s : Machine) → IsAtRest before → Goes before job s → Rests job s
unfolding Rests Goes
rests_goes before job s rest goes = by_open (transaction_of job s) goes
  where
    by_open : (o : Option Transaction) → GoesOn before o (job_locks job s) → Resting o (job_locks job s)
    by_open None h = h
    by_open (Some t) h = (before, rest, h)

module _ (job : ℕ) where
  rests_put : (t : Transaction) (s : Machine) → Resting (Some t) (job_locks job s) → Rests job (put_transaction job t s)
  unfolding Rests
  rests_put t s h = subst (λ o. Resting o (job_locks job s)) (sym (get_here s.transactions job t)) h

  rests_closed : (s : Machine) → IsAtRest (job_locks job s) → Rests job (close job s)
  unfolding Rests
  rests_closed s h = subst (λ o. Resting o (job_locks job s)) (sym (gone_here s.transactions job)) h

  rests_as : (s : Machine) → transaction_of job s ≡ None → IsAtRest (job_locks job s) → Rests job s
  unfolding Rests
  rests_as s is h = subst (λ o. Resting o (job_locks job s)) (sym is) h

  rests_unit : (u : JournalUnit) (s : Machine) → transaction_of job s ≡ None → IsAtRest (locks_of job (after_unit u (after s.units initial)).locks) → Rests job (add_unit u s)
  rests_unit u s is h = rests_as (add_unit u s) is (subst IsAtRest (sym (one_more u s job)) h)

  rests_begun : (restarts : ℕ) (s : Machine) → IsAtRest (job_locks job s) → Rests job (begin job restarts s)
  rests_begun restarts s h = rests_put _ s (job_locks job s, h, refl)

  rests_lock : (command : LockCommand) (had : Bool) (s : Machine) → transaction_of job s ≡ None → IsAtRest (job_locks job s) → Rests job (told_lock job command had None s)
  rests_lock command had s is h =
      rests_unit (Lock job false command had) s is
      (subst IsAtRest (sym ((locks_put (after s.units initial).locks job (job_wants false (want_after job command (after s.units initial).locks) (job_locks job s)))))
      (record { held = refl; start = refl }))

  rests_halt : (s : Machine) → Rests job (close job (add_unit (End job) s))
  rests_halt s =
      let left = one_more (End job) s job ∙ locks_gone (after s.units initial).locks job in
      rests_closed (add_unit (End job) s) (subst IsAtRest (sym left) no_locks_rest)

  rests_told : (command : Command) (reply : Reply) (s : Machine) → transaction_of job s ≡ None → IsAtRest (job_locks job s) → Rests job (told job command reply s)
  rests_told command (Refused refusal) s is h = rests_as s is h
  rests_told (Access command) (Answered answer) s is h = subst (λ o. Rests job (told_answer job command answer o s)) (sym is) (rests_unit (Lone job command answer) s is h)
  rests_told (lock_command command) (Had had) s is h = subst (λ o. Rests job (told_lock job command had o s)) (sym is) (rests_lock command had s is h)
  rests_told (lock_command command) Finished s is h = subst (λ o. Rests job (told_lock job command true o s)) (sym is) (rests_lock command true s is h)
  rests_told Start (AtLevel level) s is h = subst (λ o. Rests job (told_level job level o s)) (sym is) (rests_begun 0 s h)
  rests_told Commit (AtLevel level) s is h = subst (λ o. Rests job (told_level job level o s)) (sym is) (rests_begun 0 s h)
  rests_told Commit Committed s is h = subst (λ o. Rests job (told_commit job o s)) (sym is) (rests_as s is h)
  rests_told Commit (Restarted restarts) s is h = subst (λ o. Rests job (begin job restarts (told_back job o s))) (sym is) (rests_begun restarts s h)
  rests_told Restart (Restarted restarts) s is h = subst (λ o. Rests job (begin job restarts (told_back job o s))) (sym is) (rests_begun restarts s h)
  rests_told Rollback Finished s is h = subst (λ o. Rests job (close job (told_back job o s))) (sym is) (rests_closed s h)
  rests_told Halt Finished s is h = rests_halt s
  rests_told command reply s is h = rests_as s is h

-- ---- runs

rests_step : (job q : ℕ) (command : Command) (reply : Reply) (s : Machine) → Rests job s → Rests job (told q command reply s)
unfolding Rests
rests_step job q command reply s rests = elim (same_or_not job q) [
  | inl is ↦ subst (λ z. Rests job (told z command reply s)) (sym is) (own rests)
  | inr ne ↦ other (alike_told job q ne command reply s) rests
]
  where
    by_open : (o : Option Transaction) → transaction_of job s ≡ o → Resting o (job_locks job s) → Rests job (told job command reply s)
    by_open None is h = rests_told job command reply s is h
    by_open (Some t) is h = rests_goes h.0 job (told job command reply s) h.1 (goes_told h.0 h.1 job command reply t s is h.2)

    own : Rests job s → Rests job (told job command reply s)
    own h = by_open (transaction_of job s) refl h

    other : IsAlike job s (told q command reply s) → Rests job s → Rests job (told q command reply s)
    other alike h = subst (λ o. Resting o (job_locks job (told q command reply s))) (sym alike.transaction) (subst (Resting (transaction_of job s)) (sym alike.locks) h)

rests_run : (job : ℕ) (steps : List (ℕ × Command)) (s : Machine) → Rests job s → Rests job (run_of steps s)
rests_run job [] s h = h
rests_run job (step ∷ steps) s h = rests_run job steps (step_of step.0 step.1 s) (rests_step job step.0 step.1 (reply_of step.0 step.1 s) s h)

rests_nothing : (job : ℕ) → Rests job nothing_done
rests_nothing job = rests_as job nothing_done (finmap.get-empty nat_cmp job) (subst IsAtRest (sym (no_locks_yet job)) no_locks_rest)

at_rest : (job : ℕ) (s : Machine) → Rests job s → transaction_of job s ≡ None → IsAtRest (job_locks job s)
unfolding Rests
at_rest job s h is = subst (λ o. Resting o (job_locks job s)) is h

goes_step : (before : JobLocks) → IsAtRest before → (job q : ℕ) (command : Command) (reply : Reply) (s : Machine) → is_some (transaction_of job s) ≡ true → Goes before job s → Goes before job (told q command reply s)
unfolding Goes
goes_step before rest job q command reply s some goes = elim (same_or_not job q) [
  | inl is ↦ subst (λ z. Goes before job (told z command reply s)) (sym is) (own goes)
  | inr ne ↦ other (alike_told job q ne command reply s) goes
]
  where
    by_open : (o : Option Transaction) → transaction_of job s ≡ o → is_some o ≡ true → GoesOn before o (job_locks job s) → Goes before job (told job command reply s)
    by_open None is some h = absurd (cc)
    by_open (Some t) is some h = goes_told before rest job command reply t s is h

    own : Goes before job s → Goes before job (told job command reply s)
    own h = by_open (transaction_of job s) refl some h

    other : IsAlike job s (told q command reply s) → Goes before job s → Goes before job (told q command reply s)
    other alike h = subst (λ o. GoesOn before o (job_locks job (told q command reply s))) (sym alike.transaction) (subst (GoesOn before (transaction_of job s)) (sym alike.locks) h)

goes_run : (before : JobLocks) → IsAtRest before → (job : ℕ) (steps : List (ℕ × Command)) (s : Machine) → StaysOpen job steps s → Goes before job s → (Goes before job (run_of steps s)) × (is_some (transaction_of job (run_of steps s)) ≡ true)
goes_run before rest job [] s stays h = (h, stays)
goes_run before rest job (step ∷ steps) s stays h = goes_run before rest job steps (step_of step.0 step.1 s) stays.1 (goes_step before rest job step.0 step.1 (reply_of step.0 step.1 s) s stays.0 h)

goes_start : (job : ℕ) (reply : Reply) (s : Machine) → transaction_of job s ≡ None → IsAtRest (job_locks job s) → Goes (job_locks job s) job (told job Start reply s)
unfolding Goes
goes_start job reply s is rest = by_reply reply
  where
    unchanged : Goes (job_locks job s) job s
    unchanged = subst (λ o. GoesOn (job_locks job s) o (job_locks job s)) (sym is) rest

    by_reply : (r : Reply) → Goes (job_locks job s) job (told job Start r s)
    by_reply (AtLevel level) = subst (λ o. Goes (job_locks job s) job (told_level job level o s)) (sym is) (goes_put (job_locks job s) rest job _ s refl)
    by_reply (Refused refusal) = unchanged
    by_reply r = unchanged

pub map_back : (job : ℕ) (o : Option Transaction) (s : Machine) → machine_map (told_back job o s) ≡ machine_map s
map_back job None s = refl
map_back job (Some t) s = elim t.took_lock as (λ b. machine_map (cond b (add_unit (Back job) s) s) ≡ machine_map s) [ true ↦ ap (λ (st : State). st.map) (after-append s.units (Back job ∷ []) initial) | false ↦ refl ]

kept_back : (before : JobLocks) → IsAtRest before → (job : ℕ) (s : Machine) → Goes before job s → is_some (transaction_of job s) ≡ true → job_locks job (told_back job (transaction_of job s) s) ≡ before
unfolding Goes
kept_back before rest job s goes some = by_open (transaction_of job s) goes some
  where
    by_open : (o : Option Transaction) → GoesOn before o (job_locks job s) → is_some o ≡ true → job_locks job (told_back job o s) ≡ before
    by_open None h some = absurd (cc)
    by_open (Some t) h some = locks_back before rest job t s h

-- ---- no data command among the units

-- there are n units, and the job's units after them are LOCKs and their undoing
record IsBare (n job : ℕ) (s : Machine) : Type 0 where
  long : n ≤ length s.units
  bare : only_locks job (drop n s.units) ≡ true

module _ (n job : ℕ) where
  bare_unit : (u : JournalUnit) (s : Machine) → (not (job_of u == job) || is_lock_or_back u) ≡ true → IsBare n job s → IsBare n job (add_unit u s)
  bare_unit u s allowed bare =
      let longer : length (s.units ++ u ∷ []) ≡ length s.units + 1 = simp (length-append) refl in
      record {
        long = omega (arith, bare.long, longer);
        bare = ap (only_locks job) (drop-append-le n s.units (u ∷ []) bare.long) ∙ list_all-append (λ v. not (job_of v == job) || is_lock_or_back v) (drop n s.units) (u ∷ []) ∙ and_from _ _ bare.bare (and_from _ _ allowed refl);
      }

  bare_put : (q : ℕ) (t : Transaction) (s : Machine) → IsBare n job s → IsBare n job (put_transaction q t s)
  bare_put q t s bare = record { long = bare.long; bare = bare.bare }

  bare_closed : (q : ℕ) (s : Machine) → IsBare n job s → IsBare n job (close q s)
  bare_closed q s bare = record { long = bare.long; bare = bare.bare }

  -- a job takes back its LOCKs
  bare_back : (q : ℕ) (o : Option Transaction) (s : Machine) → IsBare n job s → IsBare n job (told_back q o s)
  bare_back q None s bare = bare
  bare_back q (Some t) s bare = elim t.took_lock as (λ b. IsBare n job (cond b (add_unit (Back q) s) s)) [ true ↦ bare_unit (Back q) s (or_right (not (q == job)) _ refl) bare | false ↦ bare ]

  bare_lock : (q : ℕ) (command : LockCommand) (had : Bool) (o : Option Transaction) (s : Machine) → IsBare n job s → IsBare n job (told_lock q command had o s)
  bare_lock q command had None s bare = bare_unit (Lock q false command had) s (or_right (not (q == job)) _ refl) bare
  bare_lock q command had (Some t) s bare = bare_put q _ (add_unit (Lock q true command had) s) (bare_unit (Lock q true command had) s (or_right (not (q == job)) _ refl) bare)

  bare_level : (q level : ℕ) (o : Option Transaction) (s : Machine) → IsBare n job s → IsBare n job (told_level q level o s)
  bare_level q level None s bare = bare_put q _ s bare
  bare_level q level (Some t) s bare = bare_put q _ s bare

  -- the job's own step, in a transaction that stays open
  bare_own : (command : Command) (reply : Reply) (s : Machine) → is_some (transaction_of job s) ≡ true → is_some (transaction_of job (told job command reply s)) ≡ true → IsBare n job s → IsBare n job (told job command reply s)
  bare_own command (Refused refusal) s was stays bare = bare
  bare_own (Access command) (Answered answer) s was stays bare = by_open (transaction_of job s) was
    where
      by_open : (o : Option Transaction) → is_some o ≡ true → IsBare n job (told_answer job command answer o s)
      by_open None h = absurd (cc)
      by_open (Some t) h = bare_put job _ s bare
  bare_own (lock_command command) (Had had) s was stays bare = bare_lock job command had (transaction_of job s) s bare
  bare_own (lock_command command) Finished s was stays bare = bare_lock job command true (transaction_of job s) s bare
  bare_own Start (AtLevel level) s was stays bare = bare_level job level (transaction_of job s) s bare
  bare_own Commit (AtLevel level) s was stays bare = bare_level job level (transaction_of job s) s bare
  bare_own Commit Committed s was stays bare = by_open (transaction_of job s) was stays
    where
      by_open : (o : Option Transaction) → is_some o ≡ true → is_some (transaction_of job (told_commit job o s)) ≡ true → IsBare n job (told_commit job o s)
      by_open None h k = bare
      by_open (Some t) h k = let e : false ≡ true = sym (ap is_some (gone_here s.transactions job)) ∙ k in absurd (cc)
  bare_own Commit (Restarted restarts) s was stays bare = bare_put job _ (told_back job (transaction_of job s) s) (bare_back job (transaction_of job s) s bare)
  bare_own Restart (Restarted restarts) s was stays bare = bare_put job _ (told_back job (transaction_of job s) s) (bare_back job (transaction_of job s) s bare)
  bare_own Rollback Finished s was stays bare = bare_closed job (told_back job (transaction_of job s) s) (bare_back job (transaction_of job s) s bare)
  bare_own Halt Finished s was stays bare = let e : false ≡ true = sym (ap is_some (gone_here s.transactions job)) ∙ stays in absurd (cc)
  bare_own command reply s was stays bare = bare

  -- another job's step
  module _ (q : ℕ) (ne : job ≡ q → ⊥) where
    other_allowed : (u : JournalUnit) → job_of u ≡ q → (not (job_of u == job) || is_lock_or_back u) ≡ true
    other_allowed u is = or_left (not (job_of u == job)) _ (differ (job_of u) job (λ e. ne (sym e ∙ is)))

    bare_other_answer : (command : DataCommand) (answer : Answer) (o : Option Transaction) (s : Machine) → IsBare n job s → IsBare n job (told_answer q command answer o s)
    bare_other_answer command answer None s bare = bare_unit (Lone q command answer) s (other_allowed (Lone q command answer) refl) bare
    bare_other_answer command answer (Some t) s bare = bare_put q _ s bare

    bare_other_commit : (o : Option Transaction) (s : Machine) → IsBare n job s → IsBare n job (told_commit q o s)
    bare_other_commit None s bare = bare
    bare_other_commit (Some t) s bare = bare_closed q (add_unit (Whole q t.exchanges) s) (bare_unit (Whole q t.exchanges) s (other_allowed (Whole q t.exchanges) refl) bare)

    bare_other : (command : Command) (reply : Reply) (s : Machine) → IsBare n job s → IsBare n job (told q command reply s)
    bare_other command (Refused refusal) s bare = bare
    bare_other (Access command) (Answered answer) s bare = bare_other_answer command answer (transaction_of q s) s bare
    bare_other (lock_command command) (Had had) s bare = bare_lock q command had (transaction_of q s) s bare
    bare_other (lock_command command) Finished s bare = bare_lock q command true (transaction_of q s) s bare
    bare_other Start (AtLevel level) s bare = bare_level q level (transaction_of q s) s bare
    bare_other Commit (AtLevel level) s bare = bare_level q level (transaction_of q s) s bare
    bare_other Commit Committed s bare = bare_other_commit (transaction_of q s) s bare
    bare_other Commit (Restarted restarts) s bare = bare_put q _ (told_back q (transaction_of q s) s) (bare_back q (transaction_of q s) s bare)
    bare_other Restart (Restarted restarts) s bare = bare_put q _ (told_back q (transaction_of q s) s) (bare_back q (transaction_of q s) s bare)
    bare_other Rollback Finished s bare = bare_closed q (told_back q (transaction_of q s) s) (bare_back q (transaction_of q s) s bare)
    bare_other Halt Finished s bare = bare_closed q (add_unit (End q) s) (bare_unit (End q) s (other_allowed (End q) refl) bare)
    bare_other command reply s bare = bare

  bare_step : (q : ℕ) (command : Command) (reply : Reply) (s : Machine) → is_some (transaction_of job s) ≡ true → is_some (transaction_of job (told q command reply s)) ≡ true → IsBare n job s → IsBare n job (told q command reply s)
  bare_step q command reply s was stays bare = elim (same_or_not job q) [
    | inl is ↦ subst (λ z. IsBare n job (told z command reply s)) (sym is) (bare_own command reply s was (subst (λ z. is_some (transaction_of job (told z command reply s)) ≡ true) is stays) bare)
    | inr ne ↦ bare_other q ne command reply s bare
  ]

  stays_now : (steps : List (ℕ × Command)) (s : Machine) → StaysOpen job steps s → is_some (transaction_of job s) ≡ true
  stays_now [] s h = h
  stays_now (step ∷ steps) s h = h.0

  bare_run : (steps : List (ℕ × Command)) (s : Machine) → StaysOpen job steps s → IsBare n job s → IsBare n job (run_of steps s)
  bare_run [] s h bare = bare
  bare_run (step ∷ steps) s h bare = bare_run steps (step_of step.0 step.1 s) h.1 (bare_step step.0 step.1 (reply_of step.0 step.1 s) s h.0 (stays_now steps (step_of step.0 step.1 s) h.1) bare)

  bare_start : (reply : Reply) (s : Machine) → IsBare n job s → IsBare n job (told job Start reply s)
  bare_start (AtLevel level) s bare = bare_level job level (transaction_of job s) s bare
  bare_start (Refused refusal) s bare = bare
  bare_start reply s bare = bare

bare_now : (job : ℕ) (s : Machine) → IsBare (length s.units) job s
bare_now job s = record { long = omega arith; bare = ap (only_locks job) (drop-length s.units) }

-- HALT adds one unit, which leaves the database, and no locks of the job
halted : (s t : Machine) (job : ℕ) → IsBare (length s.units) job t → IsHalted job s t (close job (add_unit (End job) t))
halted s t job bare = record {
  before = bare.bare;
  units = refl;
  map = ap (λ (st : State). st.map) (after-append t.units (End job ∷ []) initial);
  locks = one_more (End job) t job ∙ locks_gone (after t.units initial).locks job;
  closed = gone_here t.transactions job;
}

pub leaves_no_trace : BackedTransactionsLeaveNoTrace
leaves_no_trace before more job none stays =
    let s = run_of before nothing_done in
    let rest : IsAtRest (job_locks job (run_of before nothing_done)) = at_rest job (run_of before nothing_done) (rests_run job before nothing_done (rests_nothing job)) none in
    let ran = goes_run (job_locks job (run_of before nothing_done)) rest job more (step_of job Start (run_of before nothing_done)) stays (goes_start job (reply_of job Start (run_of before nothing_done)) (run_of before nothing_done) none rest) in
    let bare = bare_run (length s.units) job more (step_of job Start s) stays (bare_start (length s.units) job (reply_of job Start s) s (bare_now job s)) in
    ended s (run_of more (step_of job Start s)) (kept_back (job_locks job s) rest job (run_of more (step_of job Start s)) ran.0 ran.1) bare
  where
    ended : (s t : Machine) → job_locks job (told_back job (transaction_of job t) t) ≡ job_locks job s → IsBare (length s.units) job t → LeavesNoTrace job s t
    ended s t kept bare =
        let back = bare_back (length s.units) job job (transaction_of job t) t bare in
        record {
          rollback = λ e. subst (λ r. IsUndone job s t (told job Rollback r t)) (sym e) (record { units = back.bare; map = map_back job (transaction_of job t) t; locks = kept });
          restart = λ n e. subst (λ r. IsUndone job s t (told job Restart r t)) (sym e) (record { units = back.bare; map = map_back job (transaction_of job t) t; locks = kept });
          refused_commit = λ n e. subst (λ r. IsUndone job s t (told job Commit r t)) (sym e) (record { units = back.bare; map = map_back job (transaction_of job t) t; locks = kept });
          halt = λ e. subst (λ r. IsHalted job s t (told job Halt r t)) (sym e) (halted s t job bare);
        }
