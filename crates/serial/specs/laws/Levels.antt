-- How transactions begin, how deep they are, and how they end.
use Rattle.std.proofs.Common.{◌≡◌, ◌<◌, ◌≤◌, ◌⊎◌, ℕ, ◌+◌, Bool, true, false, List, [], ◌∷◌, length, refl, sym, ap, subst, ◌∙◌, inl, inr, arith, length-append}
use Rattle.std.specs.Prelude.{◌-◌, ◌^◌, min, cond, nat_lt, Option, Some, None}
use Rattle.std.proofs.lemmas.Bool.{lt-ltb, ltb-true, ltb-false}
use Rattle.std.proofs.lemmas.Bool.Decides.{nat_tests}
use Rattle.std.proofs.lemmas.List.{take-append-le}
use Rattle.std.proofs.Math.Seq.{take-length}
use Rattle.std.specs.Ordering.{nat_cmp, eq_by_cmp}
use Rattle.std.specs.Cmp.{nat_cmp_total}
use Rattle.std.specs.FinMap as finmap
use Rattle.refusal.specs.declared.Refusal.TheVariants.{LevelTooDeep, StampsUsedUp}
use Rattle.command.specs.declared.access.DataCommand.{DataCommand}
use Rattle.command.specs.declared.access.Answer.{Answer}
use Rattle.command.specs.declared.request.Command.{Command}
use Rattle.command.specs.declared.request.Command.TheVariants.{Access, Lock as lock_command, Start, Commit, Rollback, Restart, Level, Restarts, Halt}
use Rattle.command.specs.declared.request.Reply.{Reply}
use Rattle.command.specs.declared.request.Reply.TheVariants.{Answered, Finished, Had, Count, AtLevel, Committed, Restarted, Refused}
use Rattle.collation.specs.Limits.{most_levels}
use Rattle.lock_name.specs.declared.lock.LockCommand.{LockCommand}
use Rattle.lock_name.specs.Locks.{job_commits}
use Rattle.journal.specs.declared.unit.Unit.{Unit as JournalUnit}
use Rattle.journal.specs.declared.unit.Unit.TheVariants.{Whole, Lock, Back, End}
use Rattle.journal.specs.History.{State, initial, after}
use Rattle.journal.specs.laws.History.{after-append}
use Rattle.journal.specs.Story.{Transaction, Machine, nothing_done, transaction_of, add_unit, put_transaction, close, begin, told_answer, told_lock, told_level, told_commit, told_back, told, story_of}
use Rattle.serial.specs.Machine.{is_overtaken, in_transaction, number_in, restarted, reply_to_start, reply_to_commit, reply_with_room, reply_of, step_of, IsReply, AreReplies}
use Rattle.serial.specs.Levels.{BeginsNow, StartsNow, RestartsNow, BeginningsTell, IsAtLevel, LevelsTell, NoLevels, LevelsStayWithin, CommitLeaves, RollbackLeaves, HaltLeaves, HasUnitsLeft, EndsAreReplied, EndsTell}
use Rattle.serial.specs.laws.ByJob.{same_or_not, get_here, gone_here, locks_gone, locks_changed}
use Rattle.serial.specs.laws.Replies.{reply_within}
use Rattle.serial.specs.laws.Traces.{one_more, map_back, alike_told}

-- ---- replies

-- a reply that isn't StampsUsedUp is the one with room for any number of units
with_room : (job : ℕ) (command : Command) (reply : Reply) (s : Machine) → reply_of job command s ≡ reply → (Refused StampsUsedUp ≡ reply → ⊥) → reply_with_room job command s ≡ reply
with_room job command reply s is other = by_room (nat_lt (2 ^ 64 - 1) (length (told job command (reply_with_room job command s) s).units)) is
  where
    by_room : (b : Bool) → cond b (Refused StampsUsedUp) (reply_with_room job command s) ≡ reply → reply_with_room job command s ≡ reply
    by_room true is = absurd (other is)
    by_room false is = is

-- a reply that adds at most one unit
replied : (job : ℕ) (command : Command) (reply : Reply) (s : Machine) → reply_with_room job command s ≡ reply → (told job command reply s).units ≡ s.units → length s.units < 2 ^ 64 → reply_of job command s ≡ reply
replied job command reply s is same few = sym (reply_within s job command reply is (subst (λ (us : List JournalUnit). length us < 2 ^ 64) (sym same) few))

units_at_level : (job level : ℕ) (o : Option Transaction) (s : Machine) → (told_level job level o s).units ≡ s.units
units_at_level job level None s = refl
units_at_level job level (Some t) s = refl

-- ---- beginning

begins_now : (job n : ℕ) (s : Machine) → BeginsNow job n (begin job n s)
begins_now job n s = (
  record { level = 1; restarts = n; start = length s.units; exchanges = []; took_lock = false },
  get_here s.transactions job _,
  record {
    level = refl;
    restarts = refl;
    start = refl;
    exchanges = refl;
    took_lock = refl;
    sees = λ later. ap (λ (us : List JournalUnit). (after us initial).map) (take-append-le (length s.units) s.units later (omega arith) ∙ take-length s.units);
  },
)

started : (job : ℕ) (s : Machine) → transaction_of job s ≡ None → length s.units < 2 ^ 64 → StartsNow job s
started job s none few =
    let same = units_at_level job 1 (transaction_of job s) s in
    let reply = replied job Start (AtLevel 1) s (ap reply_to_start none) same few in
    record {
      reply = reply;
      units = ap (λ r. (told job Start r s).units) reply ∙ same;
      begins = subst (λ r. BeginsNow job 0 (told job Start r s)) (sym reply) (subst (λ o. BeginsNow job 0 (told_level job 1 o s)) (sym none) (begins_now job 0 s));
    }

counted_restart : (t : Transaction) (n : ℕ) → restarted t ≡ Restarted n → n ≡ min (t.restarts + 1) (2 ^ 64 - 1)
counted_restart t n is = let same : min (t.restarts + 1) (2 ^ 64 - 1) ≡ n = cc in sym same

restarted_by_restart : (job : ℕ) (s : Machine) (t : Transaction) (n : ℕ) → transaction_of job s ≡ Some t → reply_of job Restart s ≡ Restarted n → RestartsNow job n t (step_of job Restart s)
restarted_by_restart job s t n open_is is =
    let reply = with_room job Restart (Restarted n) s is (λ e. absurd (cc)) in
    record {
      counted = counted_restart t n (sym (ap (in_transaction restarted) open_is) ∙ reply);
      begins = subst (λ r. BeginsNow job n (told job Restart r s)) (sym is) (begins_now job n (told_back job (transaction_of job s) s));
    }

commit_replied : (job : ℕ) (s : Machine) (t : Transaction) (reply : Reply) → transaction_of job s ≡ Some t → reply_of job Commit s ≡ reply → (Refused StampsUsedUp ≡ reply → ⊥) → reply_to_commit s.units t ≡ reply
commit_replied job s t reply open_is is other = sym (ap (in_transaction (reply_to_commit s.units)) open_is) ∙ with_room job Commit reply s is other

restarted_by_commit : (job : ℕ) (s : Machine) (t : Transaction) (n : ℕ) → transaction_of job s ≡ Some t → reply_of job Commit s ≡ Restarted n → RestartsNow job n t (step_of job Commit s)
restarted_by_commit job s t n open_is is = record {
  counted = by_level (nat_lt 1 t.level) (commit_replied job s t (Restarted n) open_is is (λ e. absurd (cc)));
  begins = subst (λ r. BeginsNow job n (told job Commit r s)) (sym is) (begins_now job n (told_back job (transaction_of job s) s));
}
  where
    by_test : (b : Bool) → cond b (restarted t) Committed ≡ Restarted n → n ≡ min (t.restarts + 1) (2 ^ 64 - 1)
    by_test true e = counted_restart t n e
    by_test false e = absurd (cc)

    by_level : (b : Bool) → cond b (AtLevel (t.level - 1)) (cond (is_overtaken t s.units) (restarted t) Committed) ≡ Restarted n → n ≡ min (t.restarts + 1) (2 ^ 64 - 1)
    by_level true e = absurd (cc)
    by_level false e = by_test (is_overtaken t s.units) e

pub begins : (job : ℕ) (s : Machine) → BeginningsTell job s
begins job s = record { start = started job s; restart = restarted_by_restart job s; refused_commit = restarted_by_commit job s }

-- ---- levels

module _ (job : ℕ) (t : Transaction) (s : Machine) (open_is : transaction_of job s ≡ Some t) (few : length s.units < 2 ^ 64) where
  at_level : (n : ℕ) → transaction_of job (told_level job n (transaction_of job s) s) ≡ Some (record t { level = n })
  at_level n = subst (λ o. transaction_of job (told_level job n o s) ≡ Some (record t { level = n })) (sym open_is) (get_here s.transactions job (record t { level = n }))

  deeper : t.level < 127 → IsAtLevel job (t.level + 1) Start t s
  deeper less =
      let same = units_at_level job (t.level + 1) (transaction_of job s) s in
      let room : reply_to_start (Some t) ≡ AtLevel (t.level + 1) = ap (λ b. cond b (AtLevel (t.level + 1)) (Refused LevelTooDeep)) (lt-ltb t.level most_levels less) in
      let reply = replied job Start (AtLevel (t.level + 1)) s (ap reply_to_start open_is ∙ room) same few in
      record {
        reply = reply;
        units = ap (λ r. (told job Start r s).units) reply ∙ same;
        transaction = ap (λ r. transaction_of job (told job Start r s)) reply ∙ at_level (t.level + 1);
      }

  deepest : 127 ≤ t.level → reply_of job Start s ≡ Refused LevelTooDeep
  deepest many =
      let full : nat_lt t.level most_levels ≡ false = grind (arith, nat_tests) in
      replied job Start (Refused LevelTooDeep) s (ap reply_to_start open_is ∙ ap (λ b. cond b (AtLevel (t.level + 1)) (Refused LevelTooDeep)) full) refl few

  back : 1 < t.level → IsAtLevel job (t.level - 1) Commit t s
  back more =
      let same = units_at_level job (t.level - 1) (transaction_of job s) s in
      let room : reply_to_commit s.units t ≡ AtLevel (t.level - 1) = ap (λ b. cond b (AtLevel (t.level - 1)) (cond (is_overtaken t s.units) (restarted t) Committed)) (lt-ltb 1 t.level more) in
      let reply = replied job Commit (AtLevel (t.level - 1)) s (ap (in_transaction (reply_to_commit s.units)) open_is ∙ room) same few in
      record {
        reply = reply;
        units = ap (λ r. (told job Commit r s).units) reply ∙ same;
        transaction = ap (λ r. transaction_of job (told job Commit r s)) reply ∙ at_level (t.level - 1);
      }

pub levels_tell : (job : ℕ) (t : Transaction) (s : Machine) → transaction_of job s ≡ Some t → length s.units < 2 ^ 64 → LevelsTell job t s
levels_tell job t s open_is few = record {
  deeper = deeper job t s open_is few;
  deepest = deepest job t s open_is few;
  back = back job t s open_is few;
  level = replied job Level (Count t.level) s (ap (λ o. Count (number_in (λ t. t.level) o)) open_is) refl few;
  restarts = replied job Restarts (Count t.restarts) s (ap (λ o. Count (number_in (λ t. t.restarts) o)) open_is) refl few;
}

pub no_levels : (job : ℕ) (s : Machine) → transaction_of job s ≡ None → length s.units < 2 ^ 64 → NoLevels job s
no_levels job s none few = record {
  level = replied job Level (Count 0) s (ap (λ o. Count (number_in (λ t. t.level) o)) none) refl few;
  restarts = replied job Restarts (Count 0) s (ap (λ o. Count (number_in (λ t. t.restarts) o)) none) refl few;
}

-- ---- levels in runs

abbrev InRange : ℕ → Type 0
InRange level = (1 ≤ level) × (level ≤ 127)

AreInRange : Machine → Type 0
AreInRange s = (job : ℕ) (t : Transaction) → transaction_of job s ≡ Some t → InRange t.level

module _ (job : ℕ) where
  range_put : (t : Transaction) (s : Machine) → InRange t.level → AreInRange s → AreInRange (put_transaction job t s)
  unfolding AreInRange
  range_put t s here h q v is = by_job (eq_by_cmp nat_cmp q job) (sym (finmap.get-insert nat_cmp_total s.transactions job t q) ∙ is)
    where
      by_job : (b : Bool) → cond b (Some t) (finmap.get s.transactions q) ≡ Some v → InRange v.level
      by_job true is = let t_is : t ≡ v = cc in subst (λ (w : Transaction). InRange w.level) t_is here
      by_job false is = h q v is

  range_closed : (s : Machine) → AreInRange s → AreInRange (close job s)
  unfolding AreInRange
  range_closed s h q v is = by_job (eq_by_cmp nat_cmp q job) (sym (finmap.get-remove nat_cmp_total s.transactions job q) ∙ is)
    where
      by_job : (b : Bool) → cond b None (finmap.get s.transactions q) ≡ Some v → InRange v.level
      by_job true is = absurd (cc)
      by_job false is = h q v is

  range_unit : (u : JournalUnit) (s : Machine) → AreInRange s → AreInRange (add_unit u s)
  unfolding AreInRange
  range_unit u s h q v is = h q v is

  range_begun : (n : ℕ) (s : Machine) → AreInRange s → AreInRange (begin job n s)
  range_begun n s h = range_put _ s (omega arith, omega arith) h

  range_back : (o : Option Transaction) (s : Machine) → AreInRange s → AreInRange (told_back job o s)
  range_back None s h = h
  range_back (Some t) s h = elim t.took_lock as (λ b. AreInRange (cond b (add_unit (Back job) s) s)) [ true ↦ range_unit (Back job) s h | false ↦ h ]

  range_of : (s : Machine) (t : Transaction) → AreInRange s → transaction_of job s ≡ Some t → InRange t.level
  unfolding AreInRange
  range_of s t h is = h job t is

  range_answer : (command : DataCommand) (answer : Answer) (o : Option Transaction) (s : Machine) → transaction_of job s ≡ o → AreInRange s → AreInRange (told_answer job command answer o s)
  range_answer command answer None s is h = range_unit _ s h
  range_answer command answer (Some t) s is h = range_put _ s (range_of s t h is) h

  range_lock : (command : LockCommand) (had : Bool) (o : Option Transaction) (s : Machine) → transaction_of job s ≡ o → AreInRange s → AreInRange (told_lock job command had o s)
  range_lock command had None s is h = range_unit _ s h
  range_lock command had (Some t) s is h = range_put (record t { took_lock = true }) (add_unit (Lock job true command had) s) (range_of s t h is) (range_unit (Lock job true command had) s h)

  range_level : (level : ℕ) (o : Option Transaction) (s : Machine) → InRange level → AreInRange s → AreInRange (told_level job level o s)
  range_level level None s here h = range_begun 0 s h
  range_level level (Some t) s here h = range_put (record t { level = level }) s here h

  range_commit : (o : Option Transaction) (s : Machine) → AreInRange s → AreInRange (told_commit job o s)
  range_commit None s h = h
  range_commit (Some t) s h = range_closed (add_unit (Whole job t.exchanges) s) (range_unit (Whole job t.exchanges) s h)

  range_told : (command : Command) (reply : Reply) (s : Machine) → ((level : ℕ) → (command ≡ Start) ⊎ (command ≡ Commit) → reply ≡ AtLevel level → InRange level) → AreInRange s → AreInRange (told job command reply s)
  range_told command (Refused refusal) s fits h = h
  range_told (Access command) (Answered answer) s fits h = range_answer command answer (transaction_of job s) s refl h
  range_told (lock_command command) (Had had) s fits h = range_lock command had (transaction_of job s) s refl h
  range_told (lock_command command) Finished s fits h = range_lock command true (transaction_of job s) s refl h
  range_told Start (AtLevel level) s fits h = range_level level (transaction_of job s) s (fits level (inl refl) refl) h
  range_told Commit (AtLevel level) s fits h = range_level level (transaction_of job s) s (fits level (inr refl) refl) h
  range_told Commit Committed s fits h = range_commit (transaction_of job s) s h
  range_told Commit (Restarted n) s fits h = range_begun n (told_back job (transaction_of job s) s) (range_back (transaction_of job s) s h)
  range_told Restart (Restarted n) s fits h = range_begun n (told_back job (transaction_of job s) s) (range_back (transaction_of job s) s h)
  range_told Rollback Finished s fits h = range_closed (told_back job (transaction_of job s) s) (range_back (transaction_of job s) s h)
  range_told Halt Finished s fits h = range_closed (add_unit (End job) s) (range_unit (End job) s h)
  range_told command reply s fits h = h

  level_replied : (x y : ℕ) → AtLevel x ≡ AtLevel y → x ≡ y
  level_replied x y e = cc

  start_in_range : (o : Option Transaction) (level : ℕ) (s : Machine) → transaction_of job s ≡ o → AreInRange s → reply_to_start o ≡ AtLevel level → InRange level
  start_in_range None level s open_is h is = subst InRange (level_replied 1 level is) (omega arith, omega arith)
  start_in_range (Some t) level s open_is h is = by_room (nat_lt t.level most_levels) refl is
    where
      by_room : (b : Bool) → nat_lt t.level most_levels ≡ b → cond b (AtLevel (t.level + 1)) (Refused LevelTooDeep) ≡ AtLevel level → InRange level
      by_room true less is = let few : t.level < 127 = ltb-true t.level most_levels less in subst InRange (level_replied (t.level + 1) level is) (omega arith, omega arith)
      by_room false less is = absurd (cc)

  commit_in_range : (o : Option Transaction) (level : ℕ) (s : Machine) → transaction_of job s ≡ o → AreInRange s → in_transaction (reply_to_commit s.units) o ≡ AtLevel level → InRange level
  commit_in_range None level s open_is h is = absurd (cc)
  commit_in_range (Some t) level s open_is h is = by_level (nat_lt 1 t.level) refl is
    where
      by_test : (b : Bool) → cond b (restarted t) Committed ≡ AtLevel level → InRange level
      by_test true e = absurd (cc)
      by_test false e = absurd (cc)

      by_level : (b : Bool) → nat_lt 1 t.level ≡ b → cond b (AtLevel (t.level - 1)) (cond (is_overtaken t s.units) (restarted t) Committed) ≡ AtLevel level → InRange level
      by_level true more is =
          let above : 1 < t.level = ltb-true 1 t.level more in
          let within = range_of s t h open_is in
          let low = within.0 in
          let high = within.1 in
          subst InRange (level_replied (t.level - 1) level is) (omega arith, omega arith)
      by_level false more is = by_test (is_overtaken t s.units) is

  range_replied : (command : Command) (s : Machine) → AreInRange s → (level : ℕ) → (command ≡ Start) ⊎ (command ≡ Commit) → reply_of job command s ≡ AtLevel level → InRange level
  range_replied command s h level (inl e) is = start_in_range (transaction_of job s) level s refl h (with_room job Start (AtLevel level) s (subst (λ c. reply_of job c s ≡ AtLevel level) e is) (λ e. absurd (cc)))
  range_replied command s h level (inr e) is = commit_in_range (transaction_of job s) level s refl h (with_room job Commit (AtLevel level) s (subst (λ c. reply_of job c s ≡ AtLevel level) e is) (λ e. absurd (cc)))

range_reply : (job : ℕ) (command : Command) (reply : Reply) (s : Machine) → IsReply job command reply s → AreInRange s → AreInRange (told job command reply s)
range_reply job command reply s (inl is) h = subst (λ r. AreInRange (told job command r s)) (sym is) (range_told job command (reply_of job command s) s (range_replied job command s h) h)
range_reply job command reply s (inr memory) h = subst (λ r. AreInRange (told job command r s)) (sym memory.0) h

range_replies : (steps : List (ℕ × Command)) (replies : List Reply) (s : Machine) → AreReplies steps replies s → AreInRange s → AreInRange (story_of steps replies s)
range_replies [] [] s are h = h
range_replies [] (reply ∷ replies) s are h = absurd are
range_replies (step ∷ steps) [] s are h = absurd are
range_replies (step ∷ steps) (reply ∷ replies) s are h = range_replies steps replies (told step.0 step.1 reply s) are.1 (range_reply step.0 step.1 reply s are.0 h)

range_nothing : AreInRange nothing_done
unfolding AreInRange
range_nothing job t is = let never : None ≡ Some t = sym (finmap.get-empty nat_cmp job) ∙ is in absurd (cc)

pub levels_stay_within : LevelsStayWithin
levels_stay_within steps replies are job t is = range_of job (story_of steps replies nothing_done) t (range_replies steps replies nothing_done are range_nothing) is

-- ---- ending

committed : (job : ℕ) (s : Machine) (t : Transaction) → transaction_of job s ≡ Some t → reply_of job Commit s ≡ Committed → CommitLeaves job t s (step_of job Commit s)
committed job s t open_is is = subst (λ r. CommitLeaves job t s (told job Commit r s)) (sym is) (subst (λ o. CommitLeaves job t s (told_commit job o s)) (sym open_is) left)
  where
    by_test : (b : Bool) → cond b (restarted t) Committed ≡ Committed → b ≡ false
    by_test true e = absurd (cc)
    by_test false e = refl

    by_level : (b : Bool) → cond b (AtLevel (t.level - 1)) (cond (is_overtaken t s.units) (restarted t) Committed) ≡ Committed → (b ≡ false) × (is_overtaken t s.units ≡ false)
    by_level true e = absurd (cc)
    by_level false e = (refl, by_test (is_overtaken t s.units) e)

    tests : (nat_lt 1 t.level ≡ false) × (is_overtaken t s.units ≡ false)
    tests = by_level (nat_lt 1 t.level) (commit_replied job s t Committed open_is is (λ e. absurd (cc)))

    left : CommitLeaves job t s (close job (add_unit (Whole job t.exchanges) s))
    left = record {
      outermost = ltb-false 1 t.level tests.0;
      fresh = tests.1;
      units = refl;
      map = ap (λ (st : State). st.map) (after-append s.units (Whole job t.exchanges ∷ []) initial);
      closed = gone_here s.transactions job;
      locks = one_more (Whole job t.exchanges) s job ∙ locks_changed job_commits (after s.units initial).locks job refl;
    }

gone : (job : ℕ) (s : Machine) → HaltLeaves job s (close job (add_unit (End job) s))
gone job s = record {
  units = refl;
  map = ap (λ (st : State). st.map) (after-append s.units (End job ∷ []) initial);
  closed = gone_here s.transactions job;
  locks = one_more (End job) s job ∙ locks_gone (after s.units initial).locks job;
}

module _ (job : ℕ) (t : Transaction) where
  stays : (u : Transaction) (s : Machine) → transaction_of job (put_transaction job u s) ≡ None → ⊥
  stays u s none = let never : Some u ≡ None = sym (get_here s.transactions job u) ∙ none in absurd (cc)

  as_it_was : (s : Machine) → transaction_of job s ≡ Some t → transaction_of job s ≡ None → ⊥
  as_it_was s open_is none = let never : Some t ≡ None = sym open_is ∙ none in absurd (cc)

  answer_stays : (command : DataCommand) (answer : Answer) (s : Machine) → transaction_of job s ≡ Some t → transaction_of job (told_answer job command answer (transaction_of job s) s) ≡ None → ⊥
  answer_stays command answer s open_is none = stays _ s (subst (λ o. transaction_of job (told_answer job command answer o s) ≡ None) open_is none)

  lock_stays : (command : LockCommand) (had : Bool) (s : Machine) → transaction_of job s ≡ Some t → transaction_of job (told_lock job command had (transaction_of job s) s) ≡ None → ⊥
  lock_stays command had s open_is none = stays _ (add_unit (Lock job true command had) s) (subst (λ o. transaction_of job (told_lock job command had o s) ≡ None) open_is none)

  level_stays : (level : ℕ) (s : Machine) → transaction_of job s ≡ Some t → transaction_of job (told_level job level (transaction_of job s) s) ≡ None → ⊥
  level_stays level s open_is none = stays _ s (subst (λ o. transaction_of job (told_level job level o s) ≡ None) open_is none)

  own_end : (command : Command) (reply : Reply) (s : Machine) → transaction_of job s ≡ Some t → transaction_of job (told job command reply s) ≡ None → (command ≡ Commit) ⊎ ((command ≡ Rollback) ⊎ (command ≡ Halt))
  own_end command (Refused refusal) s open_is none = absurd (as_it_was s open_is none)
  own_end Commit reply s open_is none = inl refl
  own_end Rollback reply s open_is none = inr (inl refl)
  own_end Halt reply s open_is none = inr (inr refl)
  own_end (Access command) (Answered answer) s open_is none = absurd (answer_stays command answer s open_is none)
  own_end (lock_command command) (Had had) s open_is none = absurd (lock_stays command had s open_is none)
  own_end (lock_command command) Finished s open_is none = absurd (lock_stays command true s open_is none)
  own_end Start (AtLevel level) s open_is none = absurd (level_stays level s open_is none)
  own_end Restart (Restarted n) s open_is none = absurd (stays _ (told_back job (transaction_of job s) s) none)
  own_end command reply s open_is none = absurd (as_it_was s open_is none)

  ended_alone : (q : ℕ) (command : Command) (s : Machine) → transaction_of job s ≡ Some t → transaction_of job (step_of q command s) ≡ None → (q ≡ job) × ((command ≡ Commit) ⊎ ((command ≡ Rollback) ⊎ (command ≡ Halt)))
  ended_alone q command s open_is none = elim (same_or_not job q) [
    | inl is ↦ (is, own_end command (reply_of job command s) s open_is (subst (λ z. transaction_of job (step_of z command s) ≡ None) is none))
    | inr ne ↦ let alike = alike_told job q ne command (reply_of q command s) s in absurd (as_it_was s open_is (sym alike.transaction ∙ none))
  ]

-- a reply that adds a unit, where there is room for it
replied_with_unit : (job : ℕ) (command : Command) (reply : Reply) (s : Machine) → reply_with_room job command s ≡ reply → length (told job command reply s).units ≤ length s.units + 1 → HasUnitsLeft s → reply_of job command s ≡ reply
replied_with_unit job command reply s is more room = sym (reply_within s job command reply is (omega (arith, more, room)))

one_unit : (u : JournalUnit) (s : Machine) → length (add_unit u s).units ≤ length s.units + 1
one_unit u s = let longer = length-append s.units (u ∷ []) in omega (arith, longer)

back_units : (job : ℕ) (o : Option Transaction) (s : Machine) → length (told_back job o s).units ≤ length s.units + 1
back_units job None s = omega arith
back_units job (Some t) s = elim t.took_lock as (λ b. length (cond b (add_unit (Back job) s) s).units ≤ length s.units + 1) [ true ↦ one_unit (Back job) s | false ↦ omega arith ]

commit_units : (job : ℕ) (o : Option Transaction) (s : Machine) → length (told_commit job o s).units ≤ length s.units + 1
commit_units job None s = omega arith
commit_units job (Some t) s = one_unit (Whole job t.exchanges) s

committed_reply : (t : Transaction) (units : List JournalUnit) → t.level ≤ 1 → is_overtaken t units ≡ false → reply_to_commit units t ≡ Committed
committed_reply t units low fresh =
    let outermost : nat_lt 1 t.level ≡ false = grind (arith, nat_tests) in
    ap (λ b. cond b (AtLevel (t.level - 1)) (cond (is_overtaken t units) (restarted t) Committed)) outermost ∙ ap (λ b. cond b (restarted t) Committed) fresh

ends_are_replied : (job : ℕ) (s : Machine) → HasUnitsLeft s → EndsAreReplied job s
ends_are_replied job s room = record {
  commit = λ t open_is low fresh. replied_with_unit job Commit Committed s (ap (in_transaction (reply_to_commit s.units)) open_is ∙ committed_reply t s.units low fresh) (commit_units job (transaction_of job s) s) room;
  rollback = λ t open_is. replied_with_unit job Rollback Finished s (ap (in_transaction (λ t. Finished)) open_is) (back_units job (transaction_of job s) s) room;
  halt = replied_with_unit job Halt Finished s refl (one_unit (End job) s) room;
}

pub ends : (job : ℕ) (s : Machine) → EndsTell job s
ends job s = record {
  replied = ends_are_replied job s;
  commit = committed job s;
  rollback = λ is. subst (λ r. RollbackLeaves job s (told job Rollback r s)) (sym is) (record { map = map_back job (transaction_of job s) s; closed = gone_here (told_back job (transaction_of job s) s).transactions job });
  halt = λ is. subst (λ r. HaltLeaves job s (told job Halt r s)) (sym is) (gone job s);
  alone = λ t q command open_is none. ended_alone job t q command s open_is none;
}
