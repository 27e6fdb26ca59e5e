-- What the machine replies and leaves, where the job's transaction and the units are these.
use Rattle.std.proofs.Common.{◌≡◌, inl, inr, ℕ, ◌+◌, ◌-◌, ◌^◌, ◌<◌, ◌≤◌, Bool, true, false, List, [], ◌∷◌, ◌++◌, length, length-append, refl, sym, ap, ◌∙◌, subst, arith, cond}
use Rattle.std.specs.Prelude.{min, nat_lt, not, Option, Some, None}
use Rattle.std.proofs.lemmas.Bool.Decides.{nat_tests}
use Rattle.std.specs.Ordering.{nat_cmp}
use Rattle.std.specs.FinMap.{FinMap}
use Rattle.refusal.specs.declared.Refusal.{Refusal}
use Rattle.refusal.specs.declared.Refusal.TheVariants.{NoTransaction, LevelTooDeep, TransactionTooLong, StampsUsedUp, OutOfMemory, MergeOverlap, NeedSubscript}
use Rattle.collation.specs.Limits.{most_commands, most_levels}
use Rattle.collation.specs.Levels.{has_level, overlap}
use Rattle.lock_name.specs.declared.lock.LockCommand.{LockCommand}
use Rattle.lock_name.specs.declared.lock.LockCommand.TheVariants.{Release, Only, More, Fewer}
use Rattle.lock_name.specs.Locks.{lock_refusal, lock_reply}
use Rattle.command.specs.declared.access.DataCommand.{DataCommand}
use Rattle.command.specs.declared.access.DataCommand.TheVariants.{Set, Kill, Merge, Increment, Look}
use Rattle.command.specs.declared.access.Look.TheVariants.{Data, Get, Order, Query, Name}
use Rattle.command.specs.declared.access.Answer.{Answer}
use Rattle.command.specs.declared.request.Command.{Command}
use Rattle.command.specs.declared.request.Command.TheVariants.{Access, Lock as lock_command, Start, Commit, Rollback, Restart, Level, Restarts, Halt}
use Rattle.command.specs.declared.request.Reply.{Reply}
use Rattle.command.specs.declared.request.Reply.TheVariants.{Answered, Finished, Count, AtLevel, Committed, Restarted, Refused}
use Rattle.command.specs.Data.{data_refusal, data_reply}
use Rattle.globals.specs.Answering.{early_refusal}
use Rattle.journal.specs.declared.unit.Unit.{Unit as JournalUnit}
use Rattle.journal.specs.declared.unit.Unit.TheVariants.{Lone, Whole, Lock, Back, End}
use Rattle.journal.specs.History.{initial, after}
use Rattle.journal.specs.Kept.{HasNoRoom}
use Rattle.journal.specs.Story.{Transaction, Machine, transaction_of, add_unit, put_transaction, close, begin, told_answer, told_lock, told_level, told_commit, told_back, told}
use Rattle.serial.specs.Machine.{seen_by, is_overtaken, refused_or, in_transaction, number_in, told_had, restarted, reply_on, reply_to_data, reply_to_start, reply_to_commit, reply_with_room, early_of, takes_none, IsReply}
use Rattle.serial.specs.laws.ByJob.{get_here, gone_here}
use Rattle.serial.specs.laws.Replies.{reply_within, reply_without}
use Rattle.job_core.specs.Causes.{IsCauseOf}

-- no rule is a want of memory
never_memory : (command : DataCommand) → early_refusal command ≡ Some OutOfMemory → ⊥
never_memory (Set r v) e = absurd (cc)
never_memory (Kill r extent) e = absurd (cc)
never_memory (Merge a b) e = by_overlap (overlap a b) e
  where
    by_overlap : (o : Bool) → cond o (Some MergeOverlap) None ≡ Some OutOfMemory → ⊥
    by_overlap true never = absurd (cc)
    by_overlap false never = absurd (cc)
never_memory (Increment r n) e = absurd (cc)
never_memory (Look (Data r)) e = absurd (cc)
never_memory (Look (Get r d)) e = absurd (cc)
never_memory (Look (Order p direction)) e = by_level (has_level p) e
  where
    by_level : (b : Bool) → cond b None (Some NeedSubscript) ≡ Some OutOfMemory → ⊥
    by_level true never = absurd (cc)
    by_level false never = absurd (cc)
never_memory (Look (Query p direction)) e = absurd (cc)
never_memory (Look (Name start direction)) e = absurd (cc)

-- where memory was wanting no rule was there to be looked at before
late_is : (command : DataCommand) (refusal : Refusal) → ((rule : Refusal) → early_refusal command ≡ Some rule → refusal ≡ rule) → refusal ≡ OutOfMemory → early_refusal command ≡ None
late_is command refusal early memory = by_rule (early_refusal command) refl
  where
    by_rule : (o : Option Refusal) → early_refusal command ≡ o → o ≡ None
    by_rule None is = refl
    by_rule (Some rule) is = absurd (never_memory command (is ∙ ap Some (sym (early rule is) ∙ memory)))

-- the machine's step: its reply, the units behind it, and the job's transaction then
pub record IsExact (job : ℕ) (command : Command) (reply : Reply) (m : Machine) (more : List JournalUnit) (left : Option Transaction) : Type 0 where
  pub replied : IsReply job command reply m
  pub units : (told job command reply m).units ≡ more
  pub mine : transaction_of job (told job command reply m) ≡ left

module _ (job : ℕ) (units : List JournalUnit) (ts : FinMap nat_cmp Transaction) where
  abbrev m : Machine
  m = record { units = units; transactions = ts }

  -- it is done
  done : (command : Command) (reply : Reply) (next : Machine) (more : List JournalUnit) (left : Option Transaction) → reply_with_room job command m ≡ reply → told job command reply m ≡ next → next.units ≡ more → transaction_of job next ≡ left → length more < 2 ^ 64 → IsExact job command reply m more left
  done command reply next more left is step longer mine few =
      let behind : (told job command reply m).units ≡ more = ap (λ (x : Machine). x.units) step ∙ longer in record {
        replied = inl (reply_within m job command reply is (subst (λ (us : List JournalUnit). length us < 2 ^ 64) (sym behind) few));
        units = behind;
        mine = ap (transaction_of job) step ∙ mine;
      }

  -- it is refused, by its rule, or for want of room
  by_rule : (command : Command) (refusal : Refusal) (left : Option Transaction) → reply_with_room job command m ≡ Refused refusal → transaction_of job m ≡ left → length units < 2 ^ 64 → IsExact job command (Refused refusal) m units left
  by_rule command refusal left is mine few = done command (Refused refusal) m units left is refl refl mine few

  by_memory : (command : Command) (refusal : Refusal) (left : Option Transaction) → refusal ≡ OutOfMemory → early_of command (transaction_of job m) ≡ None → takes_none command (transaction_of job m) ≡ false → transaction_of job m ≡ left → IsExact job command (Refused refusal) m units left
  by_memory command refusal left is late takes mine = record { replied = inr (ap Refused is, record { late = late; takes = takes }); units = refl; mine = mine }

  by_stamps : (command : Command) (refusal : Refusal) (reply : Reply) (left : Option Transaction) → refusal ≡ StampsUsedUp → reply_with_room job command m ≡ reply → 2 ^ 64 - 1 < length (told job command reply m).units → transaction_of job m ≡ left → IsExact job command (Refused refusal) m units left
  by_stamps command refusal reply left is e many mine = record { replied = inl (ap Refused is ∙ reply_without m job command reply e many); units = refl; mine = mine }

  -- there is no room for the unit that the step would write
  by_room : (command : Command) (refusal : Refusal) (reply : Reply) (left : Option Transaction) → HasNoRoom refusal 1 (length units) → reply_with_room job command m ≡ reply → length (told job command reply m).units ≡ length units + 1 → early_of command (transaction_of job m) ≡ None → takes_none command (transaction_of job m) ≡ false
      → transaction_of job m ≡ left → IsExact job command (Refused refusal) m units left
  by_room command refusal reply left (inl memory) e longer late takes mine = by_memory command refusal left memory late takes mine
  by_room command refusal reply left (inr full) e longer late takes mine = by_stamps command refusal reply left full.0 e (omega (arith, full.1, longer)) mine

  -- ---- a data command outside a transaction

  pub lone_answered : (command : DataCommand) (answer : Answer) → transaction_of job m ≡ None → answer ≡ data_reply command (after units initial).map → data_refusal command (after units initial).map ≡ None → length (units ++ Lone job command answer ∷ []) < 2 ^ 64
      → IsExact job (Access command) (Answered answer) m (units ++ Lone job command answer ∷ []) None
  lone_answered command answer none right accepted few =
      done (Access command) (Answered answer) (add_unit (Lone job command answer) m) (units ++ Lone job command answer ∷ []) None
      (ap (λ o. reply_to_data command o units) none ∙ (λ i. refused_or (accepted i) (Answered (sym right i))))
      (ap (λ o. told_answer job command answer o m) none) refl none few

  pub lone_refused : (command : DataCommand) (refusal : Refusal) → transaction_of job m ≡ None → IsCauseOf refusal command (after units initial).map (length units) → ((rule : Refusal) → early_refusal command ≡ Some rule → refusal ≡ rule) → length units < 2 ^ 64
      → IsExact job (Access command) (Refused refusal) m units None
  lone_refused command refusal none (inl (inl rule)) early few =
      by_rule (Access command) refusal None (ap (λ o. reply_to_data command o units) none ∙ ap (λ o. refused_or o (Answered (data_reply command (after units initial).map))) rule) none few
  lone_refused command refusal none (inl (inr memory)) early few = by_memory (Access command) refusal None memory (ap (early_of (Access command)) none ∙ late_is command refusal early memory) refl none
  lone_refused command refusal none (inr full) early few =
      let answer = data_reply command (after units initial).map in
      let reply : reply_with_room job (Access command) m ≡ Answered answer = ap (λ o. reply_to_data command o units) none ∙ ap (λ o. refused_or o (Answered answer)) full.1 in
      let long : length (told job (Access command) (Answered answer) m).units ≡ length units + 1 = ap (λ o. length (told_answer job command answer o m).units) none ∙ omega (arith, length-append units (Lone job command answer ∷ [])) in
      by_stamps (Access command) refusal (Answered answer) None full.0 reply (omega (arith, full.2, long)) none

  -- ---- in a transaction

  module _ (t : Transaction) (is : transaction_of job m ≡ Some t) where
    inside_reply : (command : DataCommand) (short : Bool) → nat_lt (length t.exchanges) most_commands ≡ short → reply_with_room job (Access command) m ≡ cond short (reply_on command (seen_by t units)) (Refused TransactionTooLong)
    inside_reply command short test = ap (λ o. reply_to_data command o units) is ∙ ap (λ b. cond b (reply_on command (seen_by t units)) (Refused TransactionTooLong)) test

    pub inside_answered : (command : DataCommand) (answer : Answer) (left : Transaction) → length t.exchanges < most_commands → answer ≡ data_reply command (seen_by t units) → data_refusal command (seen_by t units) ≡ None
        → record t { exchanges = t.exchanges ++ record { command = command; answer = answer } ∷ [] } ≡ left → length units < 2 ^ 64 → IsExact job (Access command) (Answered answer) m units (Some left)
    inside_answered command answer left short right accepted then few =
        let test : nat_lt (length t.exchanges) most_commands ≡ true = grind (arith, nat_tests) in
        let next : Transaction = record t { exchanges = t.exchanges ++ record { command = command; answer = answer } ∷ [] } in
        done (Access command) (Answered answer) (put_transaction job next m) units (Some left)
        (inside_reply command true test ∙ (λ i. refused_or (accepted i) (Answered (sym right i))))
        (ap (λ o. told_answer job command answer o m) is) refl (get_here ts job next ∙ ap Some then) few

    pub inside_too_long : (command : DataCommand) (refusal : Refusal) → refusal ≡ TransactionTooLong → most_commands ≤ length t.exchanges → length units < 2 ^ 64 → IsExact job (Access command) (Refused refusal) m units (Some t)
    inside_too_long command refusal long many few =
        let test : nat_lt (length t.exchanges) most_commands ≡ false = grind (arith, nat_tests) in
        by_rule (Access command) refusal (Some t) (inside_reply command false test ∙ ap Refused (sym long)) is few

    pub inside_rule : (command : DataCommand) (refusal : Refusal) → length t.exchanges < most_commands → data_refusal command (seen_by t units) ≡ Some refusal → length units < 2 ^ 64 → IsExact job (Access command) (Refused refusal) m units (Some t)
    inside_rule command refusal short rule few =
        let test : nat_lt (length t.exchanges) most_commands ≡ true = grind (arith, nat_tests) in
        by_rule (Access command) refusal (Some t) (inside_reply command true test ∙ ap (λ o. refused_or o (Answered (data_reply command (seen_by t units)))) rule) is few

    pub inside_memory : (command : DataCommand) (refusal : Refusal) → length t.exchanges < most_commands → refusal ≡ OutOfMemory → ((rule : Refusal) → early_refusal command ≡ Some rule → refusal ≡ rule) → IsExact job (Access command) (Refused refusal) m units (Some t)
    inside_memory command refusal short memory early =
        let test : nat_lt (length t.exchanges) most_commands ≡ true = grind (arith, nat_tests) in
        by_memory (Access command) refusal (Some t) memory (ap (early_of (Access command)) is ∙ (ap (λ b. cond b (early_refusal command) (Some TransactionTooLong)) test ∙ late_is command refusal early memory)) refl is

  -- ---- LOCK

  -- what it leaves, whatever its reply is called
  lock_told : (command : LockCommand) (had : Bool) → had ≡ lock_reply job command (after units initial).locks → told job (lock_command command) (told_had command had) m ≡ told_lock job command had (transaction_of job m) m
  lock_told Release had is = ap (λ b. told_lock job Release b (transaction_of job m) m) (sym is)
  lock_told (Only names) had is = refl
  lock_told (More names) had is = refl
  lock_told (Fewer names) had is = refl

  lock_with_room : (command : LockCommand) (had : Bool) → had ≡ lock_reply job command (after units initial).locks → lock_refusal job command (after units initial).locks ≡ None → reply_with_room job (lock_command command) m ≡ told_had command had
  lock_with_room command had is allowed = λ i. refused_or (allowed i) (told_had command (sym is i))

  pub lock_outside : (command : LockCommand) (had : Bool) → transaction_of job m ≡ None → had ≡ lock_reply job command (after units initial).locks → lock_refusal job command (after units initial).locks ≡ None → length (units ++ Lock job false command had ∷ []) < 2 ^ 64
      → IsExact job (lock_command command) (told_had command had) m (units ++ Lock job false command had ∷ []) None
  lock_outside command had none is allowed few =
      done (lock_command command) (told_had command had) (add_unit (Lock job false command had) m) (units ++ Lock job false command had ∷ []) None (lock_with_room command had is allowed)
      (lock_told command had is ∙ ap (λ o. told_lock job command had o m) none) refl none few

  pub lock_inside : (command : LockCommand) (had : Bool) (t : Transaction) → transaction_of job m ≡ Some t → had ≡ lock_reply job command (after units initial).locks → lock_refusal job command (after units initial).locks ≡ None → length (units ++ Lock job true command had ∷ []) < 2 ^ 64
      → IsExact job (lock_command command) (told_had command had) m (units ++ Lock job true command had ∷ []) (Some (record t { took_lock = true }))
  lock_inside command had t some is allowed few =
      done (lock_command command) (told_had command had) (put_transaction job (record t { took_lock = true }) (add_unit (Lock job true command had) m)) (units ++ Lock job true command had ∷ []) (Some (record t { took_lock = true }))
      (lock_with_room command had is allowed) (lock_told command had is ∙ ap (λ o. told_lock job command had o m) some) refl (get_here ts job (record t { took_lock = true })) few

  lock_longer : (command : LockCommand) (had : Bool) (o : Option Transaction) → length (told_lock job command had o m).units ≡ length units + 1
  lock_longer command had None = omega (arith, length-append units (Lock job false command had ∷ []))
  lock_longer command had (Some t) = omega (arith, length-append units (Lock job true command had ∷ []))

  pub lock_memory : (command : LockCommand) (refusal : Refusal) (left : Option Transaction) → refusal ≡ OutOfMemory → transaction_of job m ≡ left → IsExact job (lock_command command) (Refused refusal) m units left
  lock_memory command refusal left memory mine = by_memory (lock_command command) refusal left memory refl refl mine

  pub lock_rule : (command : LockCommand) (refusal : Refusal) (left : Option Transaction) → lock_refusal job command (after units initial).locks ≡ Some refusal → transaction_of job m ≡ left → length units < 2 ^ 64 → IsExact job (lock_command command) (Refused refusal) m units left
  lock_rule command refusal left rule mine few = by_rule (lock_command command) refusal left (ap (λ o. refused_or o (told_had command (lock_reply job command (after units initial).locks))) rule) mine few

  pub lock_stamps : (command : LockCommand) (refusal : Refusal) (left : Option Transaction) → refusal ≡ StampsUsedUp → lock_refusal job command (after units initial).locks ≡ None → 2 ^ 64 - 1 ≤ length units → transaction_of job m ≡ left → IsExact job (lock_command command) (Refused refusal) m units left
  lock_stamps command refusal left is allowed many mine =
      let had : Bool = lock_reply job command (after units initial).locks in
      let long : length (told job (lock_command command) (told_had command had) m).units ≡ length units + 1 = ap (λ (x : Machine). length x.units) (lock_told command had refl) ∙ lock_longer command had (transaction_of job m) in
      by_stamps (lock_command command) refusal (told_had command had) left is (lock_with_room command had refl allowed) (omega (arith, many, long)) mine

  -- ---- TSTART

  pub start_outside : transaction_of job m ≡ None → length units < 2 ^ 64 → IsExact job Start (AtLevel 1) m units (Some (record { level = 1; restarts = 0; start = length units; exchanges = []; took_lock = false }))
  start_outside none few =
      let t : Transaction = record { level = 1; restarts = 0; start = length units; exchanges = []; took_lock = false } in
      done Start (AtLevel 1) (begin job 0 m) units (Some t) (ap reply_to_start none) (ap (λ o. told_level job 1 o m) none) refl (get_here ts job t) few

  pub start_inside : (t : Transaction) (level : ℕ) → transaction_of job m ≡ Some t → level ≡ t.level + 1 → t.level < most_levels → length units < 2 ^ 64 → IsExact job Start (AtLevel level) m units (Some (record t { level = level }))
  start_inside t level some up less few =
      let test : nat_lt t.level most_levels ≡ true = grind (arith, nat_tests) in
      done Start (AtLevel level) (put_transaction job (record t { level = level }) m) units (Some (record t { level = level }))
      (ap reply_to_start some ∙ (ap (λ b. cond b (AtLevel (t.level + 1)) (Refused LevelTooDeep)) test ∙ ap AtLevel (sym up))) (ap (λ o. told_level job level o m) some) refl (get_here ts job (record t { level = level })) few

  pub start_too_deep : (t : Transaction) (refusal : Refusal) → transaction_of job m ≡ Some t → refusal ≡ LevelTooDeep → most_levels ≤ t.level → length units < 2 ^ 64 → IsExact job Start (Refused refusal) m units (Some t)
  start_too_deep t refusal some is deep few =
      let test : nat_lt t.level most_levels ≡ false = grind (arith, nat_tests) in
      by_rule Start refusal (Some t) (ap reply_to_start some ∙ (ap (λ b. cond b (AtLevel (t.level + 1)) (Refused LevelTooDeep)) test ∙ ap Refused (sym is))) some few

  -- ---- TCOMMIT

  pub commit_outside : transaction_of job m ≡ None → length units < 2 ^ 64 → IsExact job Commit (Refused NoTransaction) m units None
  commit_outside none few = by_rule Commit NoTransaction None (ap (in_transaction (reply_to_commit units)) none) none few

  module _ (t : Transaction) (is : transaction_of job m ≡ Some t) where
    -- what it is replied, of these levels and where it is overtaken or not
    abbrev commit_reply : Bool → Bool → Reply
    commit_reply inner over = cond inner (AtLevel (t.level - 1)) (cond over (restarted t) Committed)

    pub commit_inner : 1 < t.level → length units < 2 ^ 64 → IsExact job Commit (AtLevel (t.level - 1)) m units (Some (record t { level = t.level - 1 }))
    commit_inner deep few =
        let test : nat_lt 1 t.level ≡ true = grind (arith, nat_tests) in
        done Commit (AtLevel (t.level - 1)) (put_transaction job (record t { level = t.level - 1 }) m) units (Some (record t { level = t.level - 1 }))
        (ap (in_transaction (reply_to_commit units)) is ∙ ap (λ b. commit_reply b (is_overtaken t units)) test) (ap (λ o. told_level job (t.level - 1) o m) is) refl (get_here ts job (record t { level = t.level - 1 })) few

    outer_reply : (over : Bool) → t.level ≤ 1 → is_overtaken t units ≡ over → reply_with_room job Commit m ≡ cond over (restarted t) Committed
    outer_reply over low test =
        let first : nat_lt 1 t.level ≡ false = grind (arith, nat_tests) in
        ap (in_transaction (reply_to_commit units)) is ∙ (ap (λ b. commit_reply b (is_overtaken t units)) first ∙ ap (commit_reply false) test)

    outer_takes : t.level ≤ 1 → takes_none Commit (transaction_of job m) ≡ false
    outer_takes low = let first : nat_lt 1 t.level ≡ false = grind (arith, nat_tests) in ap (takes_none Commit) is ∙ first

    pub committed_outer : t.level ≤ 1 → is_overtaken t units ≡ false → length (units ++ Whole job t.exchanges ∷ []) < 2 ^ 64 → IsExact job Commit Committed m (units ++ Whole job t.exchanges ∷ []) None
    committed_outer low over few =
        done Commit Committed (close job (add_unit (Whole job t.exchanges) m)) (units ++ Whole job t.exchanges ∷ []) None (outer_reply false low over) (ap (λ o. told_commit job o m) is) refl (gone_here ts job) few

    pub commit_memory : (refusal : Refusal) → t.level ≤ 1 → refusal ≡ OutOfMemory → IsExact job Commit (Refused refusal) m units (Some t)
    commit_memory refusal low memory = by_memory Commit refusal (Some t) memory (ap (early_of Commit) is) (outer_takes low) is

    pub commit_stamps : (refusal : Refusal) → t.level ≤ 1 → refusal ≡ StampsUsedUp → is_overtaken t units ≡ false → 2 ^ 64 - 1 ≤ length units → IsExact job Commit (Refused refusal) m units (Some t)
    commit_stamps refusal low full over many =
        let long : length (told job Commit Committed m).units ≡ length units + 1 = ap (λ o. length (told_commit job o m).units) is ∙ omega (arith, length-append units (Whole job t.exchanges ∷ [])) in
        by_stamps Commit refusal Committed (Some t) full (outer_reply false low over) (omega (arith, many, long)) is

    -- ---- TROLLBACK, TRESTART, and a TCOMMIT that was overtaken

    -- the units of a transaction that goes back
    abbrev backed : List JournalUnit
    backed = cond t.took_lock (units ++ Back job ∷ []) units

    back_units : (b : Bool) → (cond b (add_unit (Back job) m) m).units ≡ cond b (units ++ Back job ∷ []) units
    back_units true = refl
    back_units false = refl

    back_others : (b : Bool) → (cond b (add_unit (Back job) m) m).transactions ≡ ts
    back_others true = refl
    back_others false = refl

    back_longer : t.took_lock ≡ true → length backed ≡ length units + 1
    back_longer took = ap (λ b. length (cond b (units ++ Back job ∷ []) units)) took ∙ length-append units (Back job ∷ [])

    pub rolled : length backed < 2 ^ 64 → IsExact job Rollback Finished m backed None
    rolled few =
        done Rollback Finished (close job (told_back job (Some t) m)) backed None (ap (in_transaction (λ x. Finished)) is) (ap (λ o. close job (told_back job o m)) is) (back_units t.took_lock) (gone_here (told_back job (Some t) m).transactions job) few

    -- it has begun anew where so many units stand
    abbrev anew_there : Transaction
    anew_there = record { level = 1; restarts = min (t.restarts + 1) (2 ^ 64 - 1); start = length backed; exchanges = []; took_lock = false }

    begun_there : (restarts : ℕ) → restarts ≡ min (t.restarts + 1) (2 ^ 64 - 1) → transaction_of job (begin job restarts (told_back job (Some t) m)) ≡ Some anew_there
    begun_there restarts count =
        get_here (told_back job (Some t) m).transactions job (record { level = 1; restarts = restarts; start = length (told_back job (Some t) m).units; exchanges = []; took_lock = false })
        ∙ (λ i. Some (record { level = 1; restarts = count i; start = length (back_units t.took_lock i); exchanges = []; took_lock = false }))

    pub restarted_there : (restarts : ℕ) → restarts ≡ min (t.restarts + 1) (2 ^ 64 - 1) → length backed < 2 ^ 64 → IsExact job Restart (Restarted restarts) m backed (Some anew_there)
    restarted_there restarts count few =
        done Restart (Restarted restarts) (begin job restarts (told_back job (Some t) m)) backed (Some anew_there) (ap (in_transaction restarted) is ∙ ap Restarted (sym count)) (ap (λ o. begin job restarts (told_back job o m)) is) (back_units t.took_lock) (begun_there restarts count) few

    pub overtaken_there : (restarts : ℕ) → t.level ≤ 1 → is_overtaken t units ≡ true → restarts ≡ min (t.restarts + 1) (2 ^ 64 - 1) → length backed < 2 ^ 64 → IsExact job Commit (Restarted restarts) m backed (Some anew_there)
    overtaken_there restarts low over count few =
        done Commit (Restarted restarts) (begin job restarts (told_back job (Some t) m)) backed (Some anew_there) (outer_reply true low over ∙ ap Restarted (sym count)) (ap (λ o. begin job restarts (told_back job o m)) is) (back_units t.took_lock) (begun_there restarts count) few

    -- there is no room for the unit that says so
    took : takes_none Rollback (Some t) ≡ not t.took_lock
    took = refl

    pub not_rolled : (refusal : Refusal) → HasNoRoom refusal 1 (length units) → t.took_lock ≡ true → IsExact job Rollback (Refused refusal) m units (Some t)
    not_rolled refusal cause took =
        let long : length (told job Rollback Finished m).units ≡ length units + 1 = ap (λ o. length (close job (told_back job o m)).units) is ∙ (ap length (back_units t.took_lock) ∙ back_longer took) in
        by_room Rollback refusal Finished (Some t) cause (ap (in_transaction (λ x. Finished)) is) long (ap (early_of Rollback) is) (ap (takes_none Rollback) is ∙ ap not took) is

    pub not_restarted : (refusal : Refusal) → HasNoRoom refusal 1 (length units) → t.took_lock ≡ true → IsExact job Restart (Refused refusal) m units (Some t)
    not_restarted refusal cause took =
        let again : ℕ = min (t.restarts + 1) (2 ^ 64 - 1) in
        let long : length (told job Restart (Restarted again) m).units ≡ length units + 1 = ap (λ o. length (begin job again (told_back job o m)).units) is ∙ (ap length (back_units t.took_lock) ∙ back_longer took) in
        by_room Restart refusal (Restarted again) (Some t) cause (ap (in_transaction restarted) is) long (ap (early_of Restart) is) (ap (takes_none Restart) is ∙ ap not took) is

    pub not_begun_anew : (refusal : Refusal) → t.level ≤ 1 → is_overtaken t units ≡ true → HasNoRoom refusal 1 (length units) → t.took_lock ≡ true → IsExact job Commit (Refused refusal) m units (Some t)
    not_begun_anew refusal low over cause took =
        let again : ℕ = min (t.restarts + 1) (2 ^ 64 - 1) in
        let long : length (told job Commit (Restarted again) m).units ≡ length units + 1 = ap (λ o. length (begin job again (told_back job o m)).units) is ∙ (ap length (back_units t.took_lock) ∙ back_longer took) in
        by_room Commit refusal (Restarted again) (Some t) cause (outer_reply true low over) long (ap (early_of Commit) is) (outer_takes low) is

  pub rollback_outside : transaction_of job m ≡ None → length units < 2 ^ 64 → IsExact job Rollback (Refused NoTransaction) m units None
  rollback_outside none few = by_rule Rollback NoTransaction None (ap (in_transaction (λ t. Finished)) none) none few

  pub restart_outside : transaction_of job m ≡ None → length units < 2 ^ 64 → IsExact job Restart (Refused NoTransaction) m units None
  restart_outside none few = by_rule Restart NoTransaction None (ap (in_transaction restarted) none) none few

  -- ---- $TLEVEL, $TRESTART, HALT

  pub level_there : (o : Option Transaction) → transaction_of job m ≡ o → length units < 2 ^ 64 → IsExact job Level (Count (number_in (λ t. t.level) o)) m units o
  level_there o is few = done Level (Count (number_in (λ t. t.level) o)) m units o (ap (λ x. Count (number_in (λ t. t.level) x)) is) refl refl is few

  pub restarts_there : (o : Option Transaction) → transaction_of job m ≡ o → length units < 2 ^ 64 → IsExact job Restarts (Count (number_in (λ t. t.restarts) o)) m units o
  restarts_there o is few = done Restarts (Count (number_in (λ t. t.restarts) o)) m units o (ap (λ x. Count (number_in (λ t. t.restarts) x)) is) refl refl is few

  pub halted_there : length (units ++ End job ∷ []) < 2 ^ 64 → IsExact job Halt Finished m (units ++ End job ∷ []) None
  halted_there few = done Halt Finished (close job (add_unit (End job) m)) (units ++ End job ∷ []) None refl refl refl (gone_here ts job) few

  pub not_halted : (refusal : Refusal) (left : Option Transaction) → HasNoRoom refusal 1 (length units) → transaction_of job m ≡ left → IsExact job Halt (Refused refusal) m units left
  not_halted refusal left cause mine = by_room Halt refusal Finished left cause refl (length-append units (End job ∷ [])) refl refl mine
