-- No two jobs hold resources that conflict.
use Rattle.std.proofs.Common.{◌≡◌, ◌<◌, ℕ, Bool, true, false, List, [], ◌∷◌, length, refl, sym, ap, subst, ◌∙◌, ◌⊎◌, inl, inr, arith}
use Rattle.std.specs.Prelude.{◌&&◌, ◌||◌, cond, filter, nat_lt, Option, Some, None, unwrap_or}
use Rattle.std.specs.Bool.{beq}
use Rattle.std.specs.List.{list_any}
use Rattle.std.specs.Ordering.{eq_by_cmp}
use Rattle.std.proofs.lemmas.Bool.{ltb-true, ltb-false}
use Rattle.std.specs.FinMap as finmap
use Rattle.lock_name.specs.declared.lock.LockCommand.{LockCommand}
use Rattle.lock_name.specs.declared.lock.LockCommand.TheVariants.{Release, Only, More, Fewer}
use Rattle.collation.specs.Reference.{Resource}
use Rattle.collation.specs.Database.{is_under}
use Rattle.lock_name.specs.Locks.{resource_cmp, Counts, count_of, JobLocks, LockState, no_locks, locks_of, conflict, is_blocked, asked, want_had, want_kept, lock_reply, want_after, job_wants, job_commits, job_goes_back, changed}
use Rattle.journal.specs.declared.unit.Unit.{Unit as JournalUnit}
use Rattle.journal.specs.declared.unit.Unit.TheVariants.{Lone, Whole, Lock, Back, End}
use Rattle.journal.specs.History.{State, initial, after, after_unit}
use Rattle.lock_name.specs.LockStatements.{times, Holds, AreApart}
use Rattle.lock_name.specs.laws.Blocking.{blocked_tells}
use Rattle.lock_name.specs.laws.Counting.{same_resource, counts_tell}
use Rattle.serial.specs.laws.Untouched.{neither}
use Rattle.serial.specs.laws.Overtaken.{false_of_not}
use Rattle.serial.specs.laws.ByJob.{same_or_not, locks_put, locks_put_apart, locks_gone, locks_gone_apart, no_locks_yet, locks_changed, locks_changed_apart}

no_count : (n : Resource) → 0 < count_of finmap.empty n → ⊥
no_count n h = let none : count_of finmap.empty n ≡ 0 = ap (λ o. unwrap_or o 0) (finmap.get-empty resource_cmp n) in absurd (omega arith)

-- ---- what stays true

same_either : (a b : Bool) → beq a b ≡ beq b a
same_either true true = refl
same_either true false = refl
same_either false true = refl
same_either false false = refl

or_turned : (a b : Bool) → (a || b) ≡ (b || a)
or_turned true true = refl
or_turned true false = refl
or_turned false true = refl
or_turned false false = refl

conflict_turned : (n x : Resource) → conflict n x ≡ conflict x n
conflict_turned n x = λ i. same_either n.has_caret x.has_caret i && or_turned (is_under n.reference x.reference) (is_under x.reference n.reference) i

-- what a job wants it holds, and what it will go back to too
record IsFit (l : JobLocks) : Type 0 where
  want : (n : Resource) → 0 < count_of l.want n → 0 < count_of l.held n
  start : (counts : Counts) → l.start ≡ Some counts → (n : Resource) → 0 < count_of counts n → 0 < count_of l.held n

record IsFair (s : LockState) : Type 0 where
  fit : (job : ℕ) → IsFit (locks_of job s)
  apart : AreApart s

-- one job's locks change: what it holds it held before, or nobody keeps it off
fair_changed : (job : ℕ) (l : JobLocks) (s t : LockState) → locks_of job t ≡ l → ((q : ℕ) → (q ≡ job → ⊥) → locks_of q t ≡ locks_of q s) → IsFit l →
    ((n : Resource) → 0 < count_of l.held n → Holds s job n ⊎ (is_blocked s job n ≡ false)) → IsFair s → IsFair t
fair_changed job l s t here others fit new fair = record {
  fit = λ q. elim (same_or_not job q) [
    | inl is ↦ subst (λ z. IsFit (locks_of z t)) (sym is) (subst IsFit (sym here) fit)
    | inr ne ↦ subst IsFit (sym (others q (λ e. ne (sym e)))) (fair.fit q)
  ];
  apart = λ j k ne n x c hj hk. elim (same_or_not job j) [
    | inl j_is ↦ elim (same_or_not job k) [
      | inl k_is ↦ ne (j_is ∙ sym k_is)
      | inr k_ne ↦ mixed k n x k_ne c (held_here n (subst (λ z. Holds t z n) j_is hj)) (held_there k x k_ne hk)
    ]
    | inr j_ne ↦ elim (same_or_not job k) [
      | inl k_is ↦ mixed j x n j_ne (conflict_turned x n ∙ c) (held_here x (subst (λ z. Holds t z x) k_is hk)) (held_there j n j_ne hj)
      | inr k_ne ↦ fair.apart j k ne n x c (held_there j n j_ne hj) (held_there k x k_ne hk)
    ]
  ];
}
  where
    held_here : (n : Resource) → Holds t job n → Holds s job n ⊎ (is_blocked s job n ≡ false)
    held_here n h = new n (subst (λ (k : JobLocks). 0 < count_of k.held n) here h)

    held_there : (q : ℕ) (n : Resource) → (job ≡ q → ⊥) → Holds t q n → Holds s q n
    held_there q n ne h = subst (λ (k : JobLocks). 0 < count_of k.held n) (others q (λ e. ne (sym e))) h

    mixed : (q : ℕ) (n x : Resource) → (job ≡ q → ⊥) → conflict n x ≡ true → Holds s job n ⊎ (is_blocked s job n ≡ false) → Holds s q x → ⊥
    mixed q n x ne c (inl old) h = fair.apart job q ne n x c old h
    mixed q n x ne c (inr free) h =
        let tells = blocked_tells s job n in
        let b : true ≡ false = sym (tells.1 (q, (λ e. ne (sym e)), (x, h, c))) ∙ free in
        absurd (cc)

-- ---- LOCK

-- a resource of a list of which none is blocked isn't blocked
pub listed_free : (s : LockState) (job : ℕ) (n : Resource) (ns : List Resource) → list_any (is_blocked s job) ns ≡ false → 0 < times n ns → is_blocked s job n ≡ false
listed_free s job n [] none h = absurd (omega arith)
listed_free s job n (k ∷ ks) none h = by_test (eq_by_cmp resource_cmp n k) refl h (listed_free s job n ks)
  where
    by_test : (b : Bool) → eq_by_cmp resource_cmp n k ≡ b → 0 < length (cond b (k ∷ filter (eq_by_cmp resource_cmp n) ks) (filter (eq_by_cmp resource_cmp n) ks)) →
        (list_any (is_blocked s job) ks ≡ false → 0 < times n ks → is_blocked s job n ≡ false) → is_blocked s job n ≡ false
    by_test true e h rest = let free = neither (is_blocked s job k) (list_any (is_blocked s job) ks) none in ap (is_blocked s job) (same_resource n k e) ∙ free.0
    by_test false e h rest = let free = neither (is_blocked s job k) (list_any (is_blocked s job) ks) none in rest free.1 h

module _ (s : LockState) (job : ℕ) (fit : IsFit (locks_of job s)) where
  abbrev IsHad : Resource → Type 0
  IsHad n = Holds s job n ⊎ (is_blocked s job n ≡ false)

  -- what a job comes to want it held before, or nobody keeps it off
  had_wants : (command : LockCommand) → list_any (is_blocked s job) (asked command) ≡ false → (n : Resource) → 0 < count_of (want_had command (locks_of job s).want) n → IsHad n
  had_wants Release none n h = absurd (no_count n h)
  had_wants (Only ns) none n h =
      let tell = counts_tell n in
      let counted = tell.more ns finmap.empty in
      let zero_is : count_of finmap.empty n ≡ 0 = ap (λ o. unwrap_or o 0) (finmap.get-empty resource_cmp n) in
      inr (listed_free s job n ns none (omega arith))
  had_wants (More ns) none n h = by_wanted (nat_lt 0 (count_of (locks_of job s).want n)) refl
    where
      by_wanted : (b : Bool) → nat_lt 0 (count_of (locks_of job s).want n) ≡ b → IsHad n
      by_wanted true e = inl (fit.want n (ltb-true 0 _ e))
      by_wanted false e =
          let tell = counts_tell n in
          let counted = tell.more ns (locks_of job s).want in
          let few = ltb-false 0 (count_of (locks_of job s).want n) e in
          inr (listed_free s job n ns none (omega arith))
  had_wants (Fewer ns) none n h =
      let tell = counts_tell n in
      let counted = tell.fewer ns (locks_of job s).want in
      inl (fit.want n (omega arith))

  kept_wants : (command : LockCommand) (n : Resource) → 0 < count_of (want_kept command (locks_of job s).want) n → IsHad n
  kept_wants Release n h = absurd (no_count n h)
  kept_wants (Only ns) n h = absurd (no_count n h)
  kept_wants (More ns) n h = inl (fit.want n h)
  kept_wants (Fewer ns) n h =
      let tell = counts_tell n in
      let counted = tell.fewer ns (locks_of job s).want in
      inl (fit.want n (omega arith))

  wants : (command : LockCommand) (n : Resource) → 0 < count_of (want_after job command s) n → IsHad n
  wants command n h = by_reply (lock_reply job command s) refl h
    where
      by_reply : (b : Bool) → lock_reply job command s ≡ b → 0 < count_of (cond b (want_had command (locks_of job s).want) (want_kept command (locks_of job s).want)) n → IsHad n
      by_reply true e h = had_wants command (false_of_not _ e) n h
      by_reply false e h = kept_wants command n h

  lock_holds : (inside : Bool) (command : LockCommand) (n : Resource) → 0 < count_of (job_wants inside (want_after job command s) (locks_of job s)).held n → IsHad n
  lock_holds false command n h = wants command n h
  lock_holds true command n h = by_held (nat_lt 0 (count_of (locks_of job s).held n)) refl
    where
      by_held : (b : Bool) → nat_lt 0 (count_of (locks_of job s).held n) ≡ b → IsHad n
      by_held true e = inl (ltb-true 0 _ e)
      by_held false e =
          let tell = counts_tell n in
          let counted = tell.greatest (locks_of job s).held (want_after job command s) in
          let few = ltb-false 0 (count_of (locks_of job s).held n) e in
          wants command n (omega arith)

  lock_fit : (inside : Bool) (want : Counts) → IsFit (job_wants inside want (locks_of job s))
  lock_fit false want = record { want = λ n h. h; start = λ counts is n h. absurd (cc) }
  lock_fit true want = record {
    want = λ n h. let tell = counts_tell n in let counted = tell.greatest (locks_of job s).held want in omega arith;
    start = λ counts is n h. let held = by_start (locks_of job s).start refl counts is n h in let tell = counts_tell n in let counted = tell.greatest (locks_of job s).held want in omega arith;
  }
    where
      by_start : (o : Option Counts) → (locks_of job s).start ≡ o → (counts : Counts) → Some (unwrap_or o (locks_of job s).want) ≡ Some counts → (n : Resource) → 0 < count_of counts n → 0 < count_of (locks_of job s).held n
      by_start None was counts is n h = let same : (locks_of job s).want ≡ counts = cc in fit.want n (subst (λ c. 0 < count_of c n) (sym same) h)
      by_start (Some c) was counts is n h = let same : c ≡ counts = cc in fit.start c was n (subst (λ c. 0 < count_of c n) (sym same) h)

  back_holds : (n : Resource) → 0 < count_of (job_goes_back (locks_of job s)).held n → IsHad n
  back_holds n h = by_start (locks_of job s).start refl h
    where
      by_start : (o : Option Counts) → (locks_of job s).start ≡ o → 0 < count_of (unwrap_or o (locks_of job s).held) n → IsHad n
      by_start None was h = inl h
      by_start (Some c) was h = inl (fit.start c was n h)

  back_fit : IsFit (job_goes_back (locks_of job s))
  back_fit = record { want = λ n h. by_start (locks_of job s).start n h; start = λ counts is n h. absurd (cc) }
    where
      by_start : (o : Option Counts) (n : Resource) → 0 < count_of (unwrap_or o (locks_of job s).want) n → 0 < count_of (unwrap_or o (locks_of job s).held) n
      by_start None n h = fit.want n h
      by_start (Some c) n h = h

-- ---- units

fair_insert : (job : ℕ) (l : JobLocks) (s : LockState) → IsFit l → ((n : Resource) → 0 < count_of l.held n → Holds s job n ⊎ (is_blocked s job n ≡ false)) → IsFair s → IsFair (finmap.insert s job l)
fair_insert job l s fit new fair = fair_changed job l s (finmap.insert s job l) (locks_put s job l) (locks_put_apart s job l) fit new fair

-- a job's locks change where it has an entry
fair_change : (change : JobLocks → JobLocks) (job : ℕ) (s : LockState) → change no_locks ≡ no_locks → IsFit (change (locks_of job s)) → ((n : Resource) → 0 < count_of (change (locks_of job s)).held n → Holds s job n ⊎ (is_blocked s job n ≡ false)) →
    IsFair s → IsFair (changed change job s (finmap.get s job))
fair_change change job s nothing fit new fair =
    fair_changed job (change (locks_of job s)) s (changed change job s (finmap.get s job)) (locks_changed change s job nothing) (locks_changed_apart change s job) fit new fair

fit_without_start : (want : Counts) → IsFit (record { want = want; held = want; start = None })
fit_without_start want = record { want = λ n h. h; start = λ counts is n h. absurd (cc) }

fair_unit : (u : JournalUnit) (s : State) → IsFair s.locks → IsFair (after_unit u s).locks
fair_unit (Lone job command answer) s fair = fair
fair_unit (Whole job exchanges) s fair =
    let fit = fair.fit job in
    fair_change job_commits job s.locks refl (fit_without_start (locks_of job s.locks).want) (λ n h. inl (fit.want n h)) fair
fair_unit (Lock job inside command had) s fair =
    fair_insert job (job_wants inside (want_after job command s.locks) (locks_of job s.locks)) s.locks
    (lock_fit s.locks job (fair.fit job) inside (want_after job command s.locks))
    (lock_holds s.locks job (fair.fit job) inside command) fair
fair_unit (Back job) s fair = fair_change job_goes_back job s.locks refl (back_fit s.locks job (fair.fit job)) (back_holds s.locks job (fair.fit job)) fair
fair_unit (End job) s fair =
    fair_changed job no_locks s.locks (finmap.remove s.locks job) (locks_gone s.locks job) (locks_gone_apart s.locks job)
    (fit_without_start finmap.empty) (λ n h. absurd (no_count n h)) fair

fair_after : (us : List JournalUnit) (s : State) → IsFair s.locks → IsFair (after us s).locks
fair_after [] s fair = fair
fair_after (u ∷ us) s fair = fair_after us (after_unit u s) (fair_unit u s fair)

fair_nothing : IsFair finmap.empty
fair_nothing = record {
  fit = λ job. subst IsFit (sym (no_locks_yet job)) (fit_without_start finmap.empty);
  apart = λ job other ne n x c h k. no_count n (subst (λ (l : JobLocks). 0 < count_of l.held n) (no_locks_yet job) h);
}

pub jobs_are_apart : (us : List JournalUnit) → AreApart (after us initial).locks
jobs_are_apart us = let fair = fair_after us initial fair_nothing in fair.apart
