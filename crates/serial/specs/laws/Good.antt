-- A machine that ran from nothing has legal units.
use Rattle.std.proofs.Common.{◌≡◌, ℕ, ◌+◌, Bool, true, false, List, [], ◌∷◌, ◌++◌, length, take, drop, refl, sym, ap, subst, ◌∙◌, arith, length-append}
use Rattle.std.specs.Prelude.{◌-◌, ◌^◌, cond, nat_lt, Option, Some, None}
use Rattle.std.proofs.lemmas.List.{take-append-le, take-append-drop}
use Rattle.std.specs.Ordering.{nat_cmp, eq_by_cmp}
use Rattle.std.specs.Cmp.{nat_cmp_total}
use Rattle.std.specs.FinMap as finmap
use Rattle.refusal.specs.declared.Refusal.{Refusal}
use Rattle.refusal.specs.declared.Refusal.TheVariants.{StampsUsedUp, TransactionTooLong, LevelTooDeep}
use Rattle.command.specs.declared.access.DataCommand.{DataCommand}
use Rattle.command.specs.declared.access.Answer.{Answer}
use Rattle.command.specs.declared.request.Command.{Command}
use Rattle.command.specs.declared.request.Command.TheVariants.{Access, Lock as lock_command, Start, Commit, Rollback, Restart, Level, Restarts, Halt}
use Rattle.command.specs.declared.request.Reply.TheVariants.{Answered, Finished, AtLevel, Committed, Refused}
use Rattle.collation.specs.Limits.{most_commands, most_levels}
use Rattle.lock_name.specs.declared.lock.LockCommand.{LockCommand}
use Rattle.lock_name.specs.declared.lock.LockCommand.TheVariants.{Release, Only, More, Fewer}
use Rattle.collation.specs.Database.{Database}
use Rattle.command.specs.Data.{data_refusal, data_reply, data_after}
use Rattle.lock_name.specs.Locks.{lock_refusal, lock_reply}
use Rattle.journal.specs.declared.unit.Exchange.{Exchange}
use Rattle.journal.specs.declared.unit.Unit.{Unit as JournalUnit}
use Rattle.journal.specs.declared.unit.Unit.TheVariants.{Lone, Whole, Lock, Back, End}
use Rattle.journal.specs.History.{initial, after, all_after, IsRight, AreRight, IsLegalUnit}
use Rattle.journal.specs.laws.History.{after-append, IsLegal-append}
use Rattle.journal.specs.Touching.{has_read}
use Rattle.journal.specs.Story.{Transaction, Machine, nothing_done, transaction_of, add_unit, put_transaction, close, begin, told_answer, told_lock, told_level, told_commit, told_back, told}
use Rattle.serial.specs.Machine.{state_at, seen_by, is_overtaken, refused_or, in_transaction, reply_on, reply_to_data, told_had, reply_to_lock, reply_to_start, restarted, reply_to_commit, reply_with_room, step_of, run_of}
use Rattle.serial.specs.Soundness.{IsSound, IsGood}
use Rattle.serial.specs.laws.Rereading.{right_on_both}
use Rattle.serial.specs.laws.Untouched.{untouched_by_units}

-- ---- the parts of a step

pub sound_later : (units : List JournalUnit) (u : JournalUnit) (t : Transaction) → IsSound units t → IsSound (units ++ u ∷ []) t
sound_later units u t sound =
    let longer : length (units ++ u ∷ []) ≡ length units + 1 = simp (length-append) refl in
    record {
      begun = omega (arith, sound.begun, longer);
      right = subst (λ us. AreRight t.exchanges (after us initial).map) (sym (take-append-le t.start units (u ∷ []) sound.begun)) sound.right;
    }

pub good_with_unit : (u : JournalUnit) (s : Machine) → IsGood s → IsLegalUnit u (after s.units initial) → IsGood (add_unit u s)
good_with_unit u s good legal = record {
  legal = IsLegal-append s.units (u ∷ []) initial good.legal (legal, tt);
  sound = λ job t is. sound_later s.units u t (good.sound job t is);
}

pub good_with_transaction : (job : ℕ) (t : Transaction) (s : Machine) → IsGood s → IsSound s.units t → IsGood (put_transaction job t s)
good_with_transaction job t s good sound = record {
  legal = good.legal;
  sound = λ q v is. by_job q v (eq_by_cmp nat_cmp q job) (sym (finmap.get-insert nat_cmp_total s.transactions job t q) ∙ is);
}
  where
    by_job : (q : ℕ) (v : Transaction) (b : Bool) → cond b (Some t) (finmap.get s.transactions q) ≡ Some v → IsSound s.units v
    by_job q v true is = let t_is : t ≡ v = cc in subst (IsSound s.units) t_is sound
    by_job q v false is = good.sound q v is

pub good_closed : (job : ℕ) (s : Machine) → IsGood s → IsGood (close job s)
good_closed job s good = record {
  legal = good.legal;
  sound = λ q v is. by_job q v (eq_by_cmp nat_cmp q job) (sym (finmap.get-remove nat_cmp_total s.transactions job q) ∙ is);
}
  where
    by_job : (q : ℕ) (v : Transaction) (b : Bool) → cond b None (finmap.get s.transactions q) ≡ Some v → IsSound s.units v
    by_job q v true is = absurd (cc)
    by_job q v false is = good.sound q v is

pub good_begun : (job restarts : ℕ) (s : Machine) → IsGood s → IsGood (begin job restarts s)
good_begun job restarts s good = good_with_transaction job _ s good (record { begun = omega arith; right = tt })

-- ---- data commands

pub right_pushed : (es : List Exchange) (command : DataCommand) (answer : Answer) (m : Database) → AreRight es m → IsRight command answer (all_after es m) → AreRight (es ++ record { command = command; answer = answer } ∷ []) m
right_pushed [] command answer m h r = (r, tt)
right_pushed (e ∷ es) command answer m h r = (h.0, right_pushed es command answer (data_after e.command m) h.1 r)

pub good_lone : (job : ℕ) (command : DataCommand) (s : Machine) → IsGood s → transaction_of job s ≡ None → IsGood (told job (Access command) (reply_on command (after s.units initial).map) s)
good_lone job command s good is = by_refusal (data_refusal command (after s.units initial).map) refl
  where
    by_refusal : (r : Option Refusal) → data_refusal command (after s.units initial).map ≡ r → IsGood (told job (Access command) (refused_or r (Answered (data_reply command (after s.units initial).map))) s)
    by_refusal (Some refusal) none = good
    by_refusal None none =
        let answer = data_reply command (after s.units initial).map in
        subst (λ o. IsGood (told_answer job command answer o s)) (sym is) (good_with_unit (Lone job command answer) s good (none, refl))

pub good_inner : (job : ℕ) (command : DataCommand) (t : Transaction) (s : Machine) → IsGood s → transaction_of job s ≡ Some t → IsGood (told job (Access command) (reply_on command (seen_by t s.units)) s)
good_inner job command t s good is = by_refusal (data_refusal command (seen_by t s.units)) refl
  where
    by_refusal : (r : Option Refusal) → data_refusal command (seen_by t s.units) ≡ r → IsGood (told job (Access command) (refused_or r (Answered (data_reply command (seen_by t s.units)))) s)
    by_refusal (Some refusal) none = good
    by_refusal None none =
        let answer = data_reply command (seen_by t s.units) in
        let sound = good.sound job t is in
        subst (λ o. IsGood (told_answer job command answer o s)) (sym is)
        (good_with_transaction job (record t { exchanges = t.exchanges ++ record { command = command; answer = answer } ∷ [] }) s good
        (record { begun = sound.begun; right = right_pushed t.exchanges command answer (state_at t.start s.units).map sound.right (none, refl) }))

pub good_data : (job : ℕ) (command : DataCommand) (s : Machine) → IsGood s → IsGood (told job (Access command) (reply_to_data command (transaction_of job s) s.units) s)
good_data job command s good = by_open (transaction_of job s) refl
  where
    by_room : (t : Transaction) (b : Bool) → transaction_of job s ≡ Some t → IsGood (told job (Access command) (cond b (reply_on command (seen_by t s.units)) (Refused TransactionTooLong)) s)
    by_room t true is = good_inner job command t s good is
    by_room t false is = good

    by_open : (o : Option Transaction) → transaction_of job s ≡ o → IsGood (told job (Access command) (reply_to_data command o s.units) s)
    by_open None is = good_lone job command s good is
    by_open (Some t) is = by_room t (nat_lt (length t.exchanges) most_commands) is

-- ---- LOCK

pub good_locked : (job : ℕ) (command : LockCommand) (had : Bool) (s : Machine) → IsGood s → lock_refusal job command (after s.units initial).locks ≡ None → had ≡ lock_reply job command (after s.units initial).locks → IsGood (told_lock job command had (transaction_of job s) s)
good_locked job command had s good none is = by_open (transaction_of job s) refl
  where
    by_open : (o : Option Transaction) → transaction_of job s ≡ o → IsGood (told_lock job command had o s)
    by_open None was = good_with_unit (Lock job false command had) s good (none, is)
    by_open (Some t) was =
        let sound = sound_later s.units (Lock job true command had) t (good.sound job t was) in
        good_with_transaction job (record t { took_lock = true }) (add_unit (Lock job true command had) s) (good_with_unit (Lock job true command had) s good (none, is))
        (record { begun = sound.begun; right = sound.right })

pub good_lock : (job : ℕ) (command : LockCommand) (s : Machine) → IsGood s → IsGood (told job (lock_command command) (reply_to_lock job command (after s.units initial).locks) s)
good_lock job command s good = by_refusal (lock_refusal job command (after s.units initial).locks) refl
  where
    by_form : (c : LockCommand) → lock_refusal job c (after s.units initial).locks ≡ None → IsGood (told job (lock_command c) (told_had c (lock_reply job c (after s.units initial).locks)) s)
    by_form Release none = good_locked job Release true s good none refl
    by_form (Only ns) none = good_locked job (Only ns) _ s good none refl
    by_form (More ns) none = good_locked job (More ns) _ s good none refl
    by_form (Fewer ns) none = good_locked job (Fewer ns) _ s good none refl

    by_refusal : (r : Option Refusal) → lock_refusal job command (after s.units initial).locks ≡ r → IsGood (told job (lock_command command) (refused_or r (told_had command (lock_reply job command (after s.units initial).locks))) s)
    by_refusal (Some refusal) none = good
    by_refusal None none = by_form command none

-- ---- transactions

pub good_level : (job level : ℕ) (s : Machine) → IsGood s → IsGood (told_level job level (transaction_of job s) s)
good_level job level s good = by_open (transaction_of job s) refl
  where
    by_open : (o : Option Transaction) → transaction_of job s ≡ o → IsGood (told_level job level o s)
    by_open None is = good_begun job 0 s good
    by_open (Some t) is = let sound = good.sound job t is in good_with_transaction job (record t { level = level }) s good (record { begun = sound.begun; right = sound.right })

pub good_back : (job : ℕ) (o : Option Transaction) (s : Machine) → IsGood s → IsGood (told_back job o s)
good_back job None s good = good
good_back job (Some t) s good = elim t.took_lock as (λ b. IsGood (cond b (add_unit (Back job) s) s)) [ true ↦ good_with_unit (Back job) s good tt | false ↦ good ]

-- the answers of a transaction that isn't overtaken are those at its commit
pub right_at_commit : (t : Transaction) (units : List JournalUnit) → IsSound units t → is_overtaken t units ≡ false → AreRight t.exchanges (after units initial).map
right_at_commit t units sound none =
    let test = has_read t.exchanges (state_at t.start units).map in
    let rest : after (drop t.start units) (state_at t.start units) ≡ after units initial = sym (after-append (take t.start units) (drop t.start units) initial) ∙ ap (λ us. after us initial) (take-append-drop t.start units) in
    subst (λ s. AreRight t.exchanges s.map) rest
    (right_on_both t.exchanges (λ y. false) (state_at t.start units).map (after (drop t.start units) (state_at t.start units)).map
    (λ x f. absurd (cc))
    (untouched_by_units test (drop t.start units) (state_at t.start units) none)
    sound.right)

pub good_commit : (job : ℕ) (s : Machine) → IsGood s → IsGood (told job Commit (in_transaction (reply_to_commit s.units) (transaction_of job s)) s)
good_commit job s good = by_open (transaction_of job s) refl
  where
    committed : (t : Transaction) → transaction_of job s ≡ Some t → is_overtaken t s.units ≡ false → IsGood (told_commit job (transaction_of job s) s)
    committed t is none = subst (λ o. IsGood (told_commit job o s)) (sym is) (good_closed job (add_unit (Whole job t.exchanges) s) (good_with_unit (Whole job t.exchanges) s good (right_at_commit t s.units (good.sound job t is) none)))

    by_test : (t : Transaction) (b : Bool) → transaction_of job s ≡ Some t → is_overtaken t s.units ≡ b → IsGood (told job Commit (cond b (restarted t) Committed) s)
    by_test t true is was = good_begun job _ (told_back job (transaction_of job s) s) (good_back job (transaction_of job s) s good)
    by_test t false is was = committed t is was

    by_level : (t : Transaction) (b : Bool) → transaction_of job s ≡ Some t → IsGood (told job Commit (cond b (AtLevel (t.level - 1)) (cond (is_overtaken t s.units) (restarted t) Committed)) s)
    by_level t true is = good_level job (t.level - 1) s good
    by_level t false is = by_test t (is_overtaken t s.units) is refl

    by_open : (o : Option Transaction) → transaction_of job s ≡ o → IsGood (told job Commit (in_transaction (reply_to_commit s.units) o) s)
    by_open None is = good
    by_open (Some t) is = by_level t (nat_lt 1 t.level) is

pub good_start : (job : ℕ) (o : Option Transaction) (s : Machine) → IsGood s → IsGood (told job Start (reply_to_start o) s)
good_start job None s good = good_level job 1 s good
good_start job (Some t) s good = elim (nat_lt t.level most_levels) as (λ b. IsGood (told job Start (cond b (AtLevel (t.level + 1)) (Refused LevelTooDeep)) s)) [ true ↦ good_level job (t.level + 1) s good | false ↦ good ]

pub good_rollback : (job : ℕ) (o : Option Transaction) (s : Machine) → IsGood s → IsGood (told job Rollback (in_transaction (λ t. Finished) o) s)
good_rollback job None s good = good
good_rollback job (Some t) s good = good_closed job (told_back job (transaction_of job s) s) (good_back job (transaction_of job s) s good)

pub good_restart : (job : ℕ) (o : Option Transaction) (s : Machine) → IsGood s → IsGood (told job Restart (in_transaction restarted o) s)
good_restart job None s good = good
good_restart job (Some t) s good = good_begun job _ (told_back job (transaction_of job s) s) (good_back job (transaction_of job s) s good)

-- ---- steps

pub good_with_room : (job : ℕ) (command : Command) (s : Machine) → IsGood s → IsGood (told job command (reply_with_room job command s) s)
good_with_room job (Access command) s good = good_data job command s good
good_with_room job (lock_command command) s good = good_lock job command s good
good_with_room job Start s good = good_start job (transaction_of job s) s good
good_with_room job Commit s good = good_commit job s good
good_with_room job Rollback s good = good_rollback job (transaction_of job s) s good
good_with_room job Restart s good = good_restart job (transaction_of job s) s good
good_with_room job Level s good = good
good_with_room job Restarts s good = good
good_with_room job Halt s good = good_closed job (add_unit (End job) s) (good_with_unit (End job) s good tt)

pub good_step : (job : ℕ) (command : Command) (s : Machine) → IsGood s → IsGood (step_of job command s)
good_step job command s good =
    elim (nat_lt (2 ^ 64 - 1) (length (told job command (reply_with_room job command s) s).units)) as (λ b. IsGood (told job command (cond b (Refused StampsUsedUp) (reply_with_room job command s)) s)) [
      | true ↦ good
      | false ↦ good_with_room job command s good
    ]

pub good_run : (steps : List (ℕ × Command)) (s : Machine) → IsGood s → IsGood (run_of steps s)
good_run [] s good = good
good_run (step ∷ steps) s good = good_run steps (step_of step.0 step.1 s) (good_step step.0 step.1 s good)

pub good_nothing : IsGood nothing_done
good_nothing = record {
  legal = tt;
  sound = λ job t is. let e : None ≡ Some t = sym (finmap.get-empty nat_cmp job) ∙ is in absurd (cc);
}
