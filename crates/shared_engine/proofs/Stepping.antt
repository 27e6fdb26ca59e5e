-- Each step of a session is one of the machine.
use Rattle.std.proofs.Common.{◌≡◌, ◌⊎◌, inl, inr, ℕ, zero, suc, ◌+◌, ◌-◌, ◌^◌, ◌<◌, ◌≤◌, Bool, true, false, List, [], ◌∷◌, ◌++◌, length, length-append, append_assoc, take, drop, refl, sym, ap, ◌∙◌, subst, arith}
use Rattle.std.specs.Prelude.{min, nat_lt, slice_get, Option, Some, None, Result, Ok, Err, if◌then◌else◌}
use Rattle.std.proofs.lemmas.Bool.Decides.{nat_tests}
use Rattle.std.proofs.lemmas.List.{take-append-drop}
use Rattle.std.specs.Ordering.{nat_cmp}
use Rattle.std.specs.FinMap as finmap
use Rattle.std.specs.FinMap.{FinMap}
use Rattle.refusal.specs.declared.Refusal.{Refusal}
use Rattle.refusal.specs.declared.Refusal.TheVariants.{NoTransaction}
use Rattle.collation.specs.Limits.{most_commands}
use Rattle.lock_name.specs.declared.lock.LockCommand.{LockCommand}
use Rattle.lock_name.specs.Locks.{lock_refusal, lock_reply}
use Rattle.command.specs.declared.access.DataCommand.{DataCommand}
use Rattle.command.specs.declared.access.Answer.{Answer}
use Rattle.command.specs.declared.request.Command.{Command}
use Rattle.command.specs.declared.request.Command.TheVariants.{Access, Lock as lock_command, Start, Commit, Rollback, Restart, Level, Restarts, Halt}
use Rattle.command.specs.declared.request.Reply.{Reply}
use Rattle.command.specs.declared.request.Reply.TheVariants.{Answered, Finished, Count, AtLevel, Committed as committed_reply, Restarted as restarted_reply, Refused}
use Rattle.command.specs.Data.{data_refusal, data_reply}
use Rattle.globals.specs.Answering.{early_refusal}
use Rattle.journal.specs.declared.unit.Unit.{Unit as JournalUnit}
use Rattle.journal.specs.declared.unit.Unit.TheVariants.{Lone, Lock, Back, End}
use Rattle.journal.specs.History.{initial, after, all_after}
use Rattle.journal.specs.Kept.{Claim, job_of}
use Rattle.journal.specs.Story.{Transaction, Machine, transaction_of, told}
use Rattle.serial.specs.Machine.{seen_by, number_in, told_had, IsReply}
use Rattle.serial.specs.Interleaving.{standing, after_told, IsToldAt, IsUnitOf, IsClaimed}
use Rattle.serial.specs.laws.ByJob.{get_here}
use Rattle.validate_commit.specs.Working.{Working, IsCauseInside}
use Rattle.validate_commit.specs.Verdicts.{IsCauseAtCommit}
use Rattle.job_core.specs.Common.{IsCauseOfLock}
use Rattle.job_core.specs.Sessions.{Session as JobSession, shown, after_lock, anew, at_level}
use Rattle.pin_board.specs.Slips.{IsBeginning}
use Rattle.shared_engine.specs.Receipts.{claim}
use Rattle.shared_engine.specs.Sessions.{Held, held, went_back, begun_anew}
use Rattle.shared_engine.specs.Engines.{HasEnded, IsCauseAtRestart, gone_back, whole_of}
use Rattle.shared_engine.specs.Blocks.{said, AreSame, HasSeen, IsLone, IsInside, IsReadAt, IsTried, IsOpened, IsDeeper, IsNone, IsCommitted, IsLower, IsRolledBack, IsRestarted, HasDone}
use Rattle.shared_engine.specs.Steps.{transaction_in, IsOpenFrom, IsStanding, reply_at_end, WasEnded, WasDone, step_at, AreWrittenBy, StepsAreExact, HaltsAreExact}
use Rattle.shared_engine.specs.declared.locked.Ended.{Ended}
use Rattle.shared_engine.specs.declared.locked.Ended.TheVariants.{Committed, Restarted}
use Rattle.shared_engine.specs.laws.Prefixes.{begins_itself, begins_longer, begins_through}
use Rattle.shared_engine.proofs.Exact.{IsExact, lone_answered, lone_refused, inside_answered, inside_too_long, inside_rule, inside_memory, lock_outside, lock_inside, lock_memory, lock_rule, lock_stamps, start_outside, start_inside, start_too_deep, commit_outside, commit_inner, committed_outer, commit_memory, commit_stamps, rolled, restarted_there, overtaken_there, not_rolled, not_restarted, not_begun_anew, rollback_outside, restart_outside, level_there, restarts_there, halted_there, not_halted}

-- ---- units of a session

claimed_last : (n : ℕ) (xs : List Claim) (c : Claim) → IsClaimed n (xs ++ c ∷ []) → IsClaimed n xs ⊎ (c.number ≡ n)
claimed_last n [] c (inl is) = inr is
claimed_last n [] c (inr never) = absurd never
claimed_last n (x ∷ xs) c (inl is) = inl (inl is)
claimed_last n (x ∷ xs) c (inr there) = behind (claimed_last n xs c there)
  where
    behind : IsClaimed n xs ⊎ (c.number ≡ n) → IsClaimed n (x ∷ xs) ⊎ (c.number ≡ n)
    behind (inl a) = inl (inr a)
    behind (inr b) = inr b

claimed_other : (n : ℕ) (xs ys : List Claim) (c : Claim) → IsClaimed n (xs ++ (ys ++ c ∷ [])) → IsClaimed n (xs ++ ys) ⊎ (c.number ≡ n)
claimed_other n xs ys c h = claimed_last n (xs ++ ys) c (subst (IsClaimed n) (sym (append_assoc xs ys (c ∷ []))) h)

claimed_receipt : (n : ℕ) (xs ys : List Claim) (c : Claim) → IsClaimed n ((xs ++ c ∷ []) ++ ys) → IsClaimed n (xs ++ ys) ⊎ (c.number ≡ n)
claimed_receipt n [] ys c (inl is) = inr is
claimed_receipt n [] ys c (inr there) = inl there
claimed_receipt n (x ∷ xs) ys c (inl is) = inl (inl is)
claimed_receipt n (x ∷ xs) ys c (inr there) = behind (claimed_receipt n xs ys c there)
  where
    behind : IsClaimed n (xs ++ ys) ⊎ (c.number ≡ n) → IsClaimed n ((x ∷ xs) ++ ys) ⊎ (c.number ≡ n)
    behind (inl a) = inl (inr a)
    behind (inr b) = inr b

-- ---- a start

pub open_later : (start : Option (List JournalUnit)) (n : ℕ) (seen log : List JournalUnit) → IsBeginning log seen → IsOpenFrom start n seen → IsOpenFrom start n log
open_later None n seen log on h = h
open_later (Some base) n seen log on h = (h.0, begins_through log seen base on h.1)

open_same : (a b : Option (List JournalUnit)) (n k : ℕ) (us vs : List JournalUnit) → a ≡ b → n ≡ k → us ≡ vs → IsOpenFrom a n us → IsOpenFrom b k vs
open_same a b n k us vs e f g h = subst (λ (x : Option (List JournalUnit)). IsOpenFrom x k vs) e (subst (λ (x : ℕ). IsOpenFrom a x vs) f (subst (λ (x : List JournalUnit). IsOpenFrom a n x) g h))

-- ---- transactions

abbrev transaction_by : Bool → JobSession → Option Transaction
transaction_by inside s = if inside then Some (shown s) else None

none_in : (s : Held) → s.state.level ≡ 0 → transaction_in s ≡ None
none_in s none = ap (λ (n : ℕ). transaction_by (nat_lt 0 n) s.state) none

is_open : (n : ℕ) → 1 ≤ n → nat_lt 0 n ≡ true
is_open n deep = grind (arith, nat_tests)

some_in : (s : Held) → 1 ≤ s.state.level → transaction_in s ≡ Some (shown s.state)
some_in s deep = ap (λ (b : Bool). transaction_by b s.state) (is_open s.state.level deep)

-- ---- what a step leaves

-- no unit was written
abbrev AddsNone : List JournalUnit → Held → Held → Type 0
AddsNone units old new = (new.seen ≡ units) × ((new.receipts ≡ old.receipts) × (new.others ≡ old.others))

-- one of the session's was
abbrev AddsOne : List JournalUnit → Held → Held → Type 0
AddsOne units old new = (u : JournalUnit) × (new.seen ≡ units ++ u ∷ []) × ((job_of u ≡ old.state.work.job) × ((n : ℕ) → IsClaimed n (new.receipts ++ new.others) → IsClaimed n (old.receipts ++ old.others) ⊎ (length units + 1 ≡ n)))

record IsStepped (units : List JournalUnit) (ts : FinMap nat_cmp Transaction) (command : Command) (reply : Reply) (old new : Held) : Type 0 where
  exact : length new.seen < 2 ^ 64 → IsExact old.state.work.job command reply (record { units = units; transactions = ts }) new.seen (transaction_in new)
  adds : AddsNone units old new ⊎ AddsOne units old new
  job : new.state.work.job ≡ old.state.work.job
  standing : IsStanding new

module _ (units : List JournalUnit) (ts : FinMap nat_cmp Transaction) (old : Held) (mine : finmap.get ts old.state.work.job ≡ transaction_in old) (stands : IsStanding old) (on : IsBeginning units old.seen) where
  abbrev m : Machine
  m = record { units = units; transactions = ts }

  abbrev job : ℕ
  job = old.state.work.job

  mine_none : old.state.level ≡ 0 → finmap.get ts job ≡ None
  mine_none none = mine ∙ none_in old none

  mine_some : 1 ≤ old.state.level → finmap.get ts job ≡ Some (shown old.state)
  mine_some deep = mine ∙ some_in old deep

  -- what is left of the job's transaction, from what it was
  left_none : (command : Command) (reply : Reply) (more : List JournalUnit) → old.state.level ≡ 0 → IsExact job command reply m more None → IsExact job command reply m more (transaction_in old)
  left_none command reply more none exact = subst (λ (o : Option Transaction). IsExact job command reply m more o) (sym (none_in old none)) exact

  left_some : (command : Command) (reply : Reply) (more : List JournalUnit) → 1 ≤ old.state.level → IsExact job command reply m more (Some (shown old.state)) → IsExact job command reply m more (transaction_in old)
  left_some command reply more deep exact = subst (λ (o : Option Transaction). IsExact job command reply m more o) (sym (some_in old deep)) exact

  -- the units before a step that wrote none are as few as those behind it
  at_units : (new : Held) → new.seen ≡ units → length new.seen < 2 ^ 64 → length units < 2 ^ 64
  at_units new now few = subst (λ (us : List JournalUnit). length us < 2 ^ 64) now few

  -- the session stays as it was
  stays : (command : Command) (reply : Reply) (new : Held) → AreSame units new.seen old new → (length units < 2 ^ 64 → IsExact job command reply m units (transaction_in old)) → IsStepped units ts command reply old new
  stays command reply new same exact = record {
    exact = λ few. subst (λ (us : List JournalUnit). IsExact job command reply m us (transaction_in new)) (sym same.0) (subst (λ (s : Held). IsExact job command reply m units (transaction_in s)) (sym same.1) (exact (at_units new same.0 few)));
    adds = inl (same.0, (ap (λ (s : Held). s.receipts) same.1, ap (λ (s : Held). s.others) same.1));
    job = ap (λ (s : Held). s.state.work.job) same.1;
    standing = subst IsStanding (sym same.1) stands;
  }

  -- but that it has seen these units
  knows : (command : Command) (reply : Reply) (new : Held) → HasSeen units new.seen old new → (length units < 2 ^ 64 → IsExact job command reply m units (transaction_in old)) → IsStepped units ts command reply old new
  knows command reply new same exact = record {
    exact = λ few. subst (λ (us : List JournalUnit). IsExact job command reply m us (transaction_in new)) (sym same.0) (subst (λ (s : Held). IsExact job command reply m units (transaction_in s)) (sym same.1) (exact (at_units new same.0 few)));
    adds = inl (same.0, (ap (λ (s : Held). s.receipts) same.1, ap (λ (s : Held). s.others) same.1));
    job = ap (λ (s : Held). s.state.work.job) same.1;
    standing = subst IsStanding (sym same.1) (record { outside = stands.outside; inside = λ deep. open_later old.start old.state.work.start old.seen units on (stands.inside deep) });
  }

  -- ---- a data command outside a transaction

  lone_step : (command : DataCommand) (result : Result Answer Refusal) (new : Held) → old.state.level ≡ 0 → IsLone command result units new.seen old new → IsStepped units ts (Access command) (said Answered result) old new
  lone_step command (Ok answer) new none h =
      let u : JournalUnit = Lone job command answer in
      let is = h.1.1 in
      subst (IsStepped units ts (Access command) (Answered answer) old) (sym is)
      (record {
        exact = λ few. left_none (Access command) (Answered answer) (units ++ u ∷ []) none (lone_answered job units ts command answer (mine_none none) h.0.0 h.0.1 few);
        adds = inr (u, refl, (refl, λ n there. claimed_receipt n old.receipts old.others (claim (length units + 1) u) there));
        job = refl;
        standing = record { outside = stands.outside; inside = λ deep. absurd (omega (arith, none, deep)) };
      })
  lone_step command (Err refusal) new none h =
      knows (Access command) (Refused refusal) new h.1
      (λ few. left_none (Access command) (Refused refusal) units none (lone_refused job units ts command refusal (mine_none none) h.0.0 (λ rule is. let told = h.0.1 rule is in cc) few))

  -- ---- a data command in a transaction

  -- it sees the database of its start
  sees : (base : List JournalUnit) → IsOpenFrom (Some base) old.state.work.start old.seen → seen_by (shown old.state) units ≡ all_after old.state.work.exchanges (after base initial).map
  sees base from =
      let there = begins_through units old.seen base on from.1 in
      ap (λ (us : List JournalUnit). all_after old.state.work.exchanges (after us initial).map) (ap (λ (n : ℕ). take n units) from.0 ∙ sym there.is)

  inside_refused : (base : List JournalUnit) (command : DataCommand) (refusal : Refusal) → 1 ≤ old.state.level → IsOpenFrom (Some base) old.state.work.start old.seen → IsCauseInside refusal command old.state.work (after base initial).map
      → ((rule : Refusal) → length old.state.work.exchanges < most_commands → early_refusal command ≡ Some rule → refusal ≡ rule) → length units < 2 ^ 64 → IsExact job (Access command) (Refused refusal) m units (Some (shown old.state))
  inside_refused base command refusal deep from (inl long) early few = inside_too_long job units ts (shown old.state) (mine_some deep) command refusal long.0 long.1 few
  inside_refused base command refusal deep from (inr (short, inl rule)) early few = inside_rule job units ts (shown old.state) (mine_some deep) command refusal short (ap (data_refusal command) (sees base from) ∙ rule) few
  inside_refused base command refusal deep from (inr (short, inr memory)) early few = inside_memory job units ts (shown old.state) (mine_some deep) command refusal short memory (λ rule. early rule short)

  inside_exact : (start : Option (List JournalUnit)) (command : DataCommand) (result : Result Answer Refusal) (new : JobSession) → 1 ≤ old.state.level → IsOpenFrom start old.state.work.start old.seen → IsReadAt start command result old.state new → length units < 2 ^ 64
      → IsExact job (Access command) (said Answered result) m units (Some (shown new))
  inside_exact None command result new deep from h few = absurd from
  inside_exact (Some base) command (Ok answer) new deep from h few =
      let view = sees base from in
      inside_answered job units ts (shown old.state) (mine_some deep) command answer (shown new) h.short (h.right ∙ ap (data_reply command) (sym view)) (ap (data_refusal command) view ∙ h.accepted)
      (sym (λ i. record { level = h.level i; restarts = h.restarts i; start = h.start i; exchanges = h.exchanges i; took_lock = h.took_lock i })) few
  inside_exact (Some base) command (Err refusal) new deep from h few = subst (λ (s : JobSession). IsExact job (Access command) (Refused refusal) m units (Some (shown s))) (sym h.same) (inside_refused base command refusal deep from h.cause h.early few)

  -- the session after it
  read_level : (start : Option (List JournalUnit)) (command : DataCommand) (result : Result Answer Refusal) (new : JobSession) → IsReadAt start command result old.state new → new.level ≡ old.state.level
  read_level None command result new h = absurd h
  read_level (Some base) command (Ok answer) new h = h.level
  read_level (Some base) command (Err refusal) new h = ap (λ (s : JobSession). s.level) h.same

  read_start : (start : Option (List JournalUnit)) (command : DataCommand) (result : Result Answer Refusal) (new : JobSession) → IsReadAt start command result old.state new → new.work.start ≡ old.state.work.start
  read_start None command result new h = absurd h
  read_start (Some base) command (Ok answer) new h = h.start
  read_start (Some base) command (Err refusal) new h = ap (λ (s : JobSession). s.work.start) h.same

  read_job : (start : Option (List JournalUnit)) (command : DataCommand) (result : Result Answer Refusal) (new : JobSession) → IsReadAt start command result old.state new → new.work.job ≡ job
  read_job None command result new h = absurd h
  read_job (Some base) command (Ok answer) new h = h.job
  read_job (Some base) command (Err refusal) new h = ap (λ (s : JobSession). s.work.job) h.same

  inside_step : (command : DataCommand) (result : Result Answer Refusal) (new : Held) → 1 ≤ old.state.level → IsInside command result units new.seen old new → IsStepped units ts (Access command) (said Answered result) old new
  inside_step command result new deep h =
      let now : new.seen ≡ units = h.1.0 in
      let level = read_level old.start command result new.state h.0 in
      let there : 1 ≤ new.state.level = omega (arith, level, deep) in record {
        exact = λ few.
            subst (λ (us : List JournalUnit). IsExact job (Access command) (said Answered result) m us (transaction_in new)) (sym now)
            (subst (λ (o : Option Transaction). IsExact job (Access command) (said Answered result) m units o) (sym (some_in new there)) (inside_exact old.start command result new.state deep (stands.inside deep) h.0 (at_units new now few)));
        adds = inl (now, (h.1.1.1.0, h.1.1.1.1.0));
        job = read_job old.start command result new.state h.0;
        standing = record {
          outside = λ none. absurd (omega (arith, none, there));
          inside = λ _. open_same old.start new.start old.state.work.start new.state.work.start units new.seen (sym h.1.1.0) (sym (read_start old.start command result new.state h.0)) (sym now) (open_later old.start old.state.work.start old.seen units on (stands.inside deep));
        };
      }

  -- ---- LOCK

  -- the session after it, in a transaction or not
  abbrev tried_by : Bool → LockCommand → Bool → Held
  tried_by inside command had =
      held (if inside then after_lock old.state else old.state) old.start (old.receipts ++ claim (length units + 1) (Lock job inside command had) ∷ []) old.others (units ++ Lock job inside command had ∷ [])

  tried_exact : (inside : Bool) (command : LockCommand) (had : Bool) → nat_lt 0 old.state.level ≡ inside → had ≡ lock_reply job command (after units initial).locks → lock_refusal job command (after units initial).locks ≡ None → length (units ++ Lock job inside command had ∷ []) < 2 ^ 64
      → IsExact job (lock_command command) (told_had command had) m (units ++ Lock job inside command had ∷ []) (transaction_by inside (if inside then after_lock old.state else old.state))
  tried_exact true command had test is allowed few = lock_inside job units ts command had (shown old.state) (mine ∙ ap (λ (b : Bool). transaction_by b old.state) test) is allowed few
  tried_exact false command had test is allowed few = lock_outside job units ts command had (mine ∙ ap (λ (b : Bool). transaction_by b old.state) test) is allowed few

  tried_level : (inside : Bool) → (if inside then after_lock old.state else old.state).level ≡ old.state.level
  tried_level true = refl
  tried_level false = refl

  tried_restarts : (inside : Bool) → (if inside then after_lock old.state else old.state).restarts ≡ old.state.restarts
  tried_restarts true = refl
  tried_restarts false = refl

  tried_work : (inside : Bool) → (if inside then after_lock old.state else old.state).work ≡ old.state.work
  tried_work true = refl
  tried_work false = refl

  tried_ok : (inside : Bool) (command : LockCommand) (had : Bool) → nat_lt 0 old.state.level ≡ inside → had ≡ lock_reply job command (after units initial).locks → lock_refusal job command (after units initial).locks ≡ None
      → IsStepped units ts (lock_command command) (told_had command had) old (tried_by inside command had)
  tried_ok inside command had test is allowed =
      let u : JournalUnit = Lock job inside command had in
      let level = tried_level inside in
      let work = tried_work inside in
      let left : transaction_in (tried_by inside command had) ≡ transaction_by inside (if inside then after_lock old.state else old.state) = ap (λ (b : Bool). transaction_by b (if inside then after_lock old.state else old.state)) (ap (nat_lt 0) level ∙ test) in record {
        exact = λ few. subst (λ (o : Option Transaction). IsExact job (lock_command command) (told_had command had) m (units ++ u ∷ []) o) (sym left) (tried_exact inside command had test is allowed few);
        adds = inr (u, refl, (refl, λ n there. claimed_receipt n old.receipts old.others (claim (length units + 1) u) there));
        job = ap (λ (w : Working). w.job) work;
        standing = record {
          outside = λ none. tried_restarts inside ∙ stands.outside (sym level ∙ none);
          inside = λ deep. subst (λ (n : ℕ). IsOpenFrom old.start n (units ++ u ∷ [])) (sym (ap (λ (w : Working). w.start) work))
              (open_later old.start old.state.work.start old.seen (units ++ u ∷ []) (begins_longer units (u ∷ []) old.seen on) (stands.inside (omega (arith, level, deep))));
        };
      }

  tried_refused : (command : LockCommand) (refusal : Refusal) → IsCauseOfLock refusal job command units → length units < 2 ^ 64 → IsExact job (lock_command command) (Refused refusal) m units (transaction_in old)
  tried_refused command refusal (inl (inl memory)) few = lock_memory job units ts command refusal (transaction_in old) memory mine
  tried_refused command refusal (inl (inr rule)) few = lock_rule job units ts command refusal (transaction_in old) rule mine few
  tried_refused command refusal (inr full) few = lock_stamps job units ts command refusal (transaction_in old) full.0 full.1.0 full.1.1 mine

  tried_step : (command : LockCommand) (result : Result Bool Refusal) (new : Held) → IsTried command result units new.seen old new → IsStepped units ts (lock_command command) (said (told_had command) result) old new
  tried_step command (Ok had) new h = subst (IsStepped units ts (lock_command command) (told_had command had) old) (sym h.1.1) (tried_ok (nat_lt 0 old.state.level) command had refl h.0.0 h.0.1)
  tried_step command (Err refusal) new h = knows (lock_command command) (Refused refusal) new h.1 (λ few. tried_refused command refusal h.0 few)

  -- ---- levels

  level_step : (command : Command) (reply : Reply) (k : ℕ) (new : Held) → 1 ≤ k → 1 ≤ old.state.level → new.seen ≡ units → new ≡ held (at_level k old.state) old.start old.receipts old.others old.seen → (length units < 2 ^ 64 → IsExact job command reply m units (Some (record (shown old.state) { level = k })))
      → IsStepped units ts command reply old new
  level_step command reply k new up deep now is exact =
      let left : Held = held (at_level k old.state) old.start old.receipts old.others old.seen in record {
        exact = λ few. subst (λ (us : List JournalUnit). IsExact job command reply m us (transaction_in new)) (sym now) (subst (λ (o : Option Transaction). IsExact job command reply m units o) (sym (ap transaction_in is ∙ some_in left up)) (exact (at_units new now few)));
        adds = inl (now, (ap (λ (s : Held). s.receipts) is, ap (λ (s : Held). s.others) is));
        job = ap (λ (s : Held). s.state.work.job) is;
        standing = subst IsStanding (sym is) (record { outside = λ none. absurd (omega (arith, none, up)); inside = λ _. stands.inside deep });
      }

  opened_step : (result : Result ℕ Refusal) (new : Held) → old.state.level ≡ 0 → IsOpened result units new.seen old new → IsStepped units ts Start (said AtLevel result) old new
  opened_step (Ok level) new none h =
      let begun = h.1.1 in
      subst (λ (n : ℕ). IsStepped units ts Start (AtLevel n) old new) (sym h.0)
      (subst (IsStepped units ts Start (AtLevel 1) old) (sym begun.is)
      (record {
        exact = λ few. start_outside job units ts (mine_none none) few;
        adds = inl (refl, (refl, refl));
        job = refl;
        standing = record { outside = λ none. absurd (omega (arith, none)); inside = λ _. (refl, begins_itself units) };
      }))
  opened_step (Err refusal) new none h = absurd h

  deeper_step : (result : Result ℕ Refusal) (new : Held) → 1 ≤ old.state.level → IsDeeper result units new.seen old new → IsStepped units ts Start (said AtLevel result) old new
  deeper_step (Ok level) new deep h =
      level_step Start (AtLevel level) level new (omega (arith, h.0.0)) deep h.1.0 h.1.1 (λ few. start_inside job units ts (shown old.state) level (mine_some deep) h.0.0 h.0.1 few)
  deeper_step (Err refusal) new deep h =
      stays Start (Refused refusal) new h.1 (λ few. left_some Start (Refused refusal) units deep (start_too_deep job units ts (shown old.state) refusal (mine_some deep) h.0.0 h.0.1 few))

  none_step : {A : Type 0} (command : Command) (reply : A → Reply) (result : Result A Refusal) (new : Held) → old.state.level ≡ 0 → IsNone result units new.seen old new → (length units < 2 ^ 64 → IsExact job command (Refused NoTransaction) m units None)
      → IsStepped units ts command (said reply result) old new
  none_step command reply result new none h exact =
      subst (λ (r : Reply). IsStepped units ts command r old new) (sym (ap (said reply) h.0))
      (stays command (Refused NoTransaction) new h.1 (λ few. left_none command (Refused NoTransaction) units none (exact few)))

  -- ---- TCOMMIT

  lower_step : (result : Result Reply Refusal) (new : Held) → 1 < old.state.level → IsLower result units new.seen old new → IsStepped units ts Commit (said (λ r. r) result) old new
  lower_step result new deep h =
      subst (λ (r : Reply). IsStepped units ts Commit r old new) (sym (ap (said (λ r. r)) h.0))
      (level_step Commit (AtLevel (old.state.level - 1)) (old.state.level - 1) new (omega (arith, deep)) (omega (arith, deep)) h.1.0 h.1.1
      (λ few. commit_inner job units ts (shown old.state) (mine_some (omega (arith, deep))) deep few))

  committed_step : (new : Held) → old.state.level ≡ 1 → HasEnded Committed units new.seen old new → IsStepped units ts Commit committed_reply old new
  committed_step new one h =
      let u : JournalUnit = whole_of old.state in
      subst (IsStepped units ts Commit committed_reply old) (sym h.1.1)
      (record {
        exact = λ few. committed_outer job units ts (shown old.state) (mine_some (omega (arith, one))) (omega (arith, one)) h.0 few;
        adds = inr (u, refl, (refl, λ n there. claimed_receipt n old.receipts old.others (claim (length units + 1) u) there));
        job = refl;
        standing = record { outside = λ _. refl; inside = λ deep. absurd (omega (arith, deep)) };
      })

  commit_refused : (refusal : Refusal) → old.state.level ≡ 1 → IsCauseAtCommit refusal old.state.work units → IsExact job Commit (Refused refusal) m units (transaction_in old)
  commit_refused refusal one (inl memory) = left_some Commit (Refused refusal) units (omega (arith, one)) (commit_memory job units ts (shown old.state) (mine_some (omega (arith, one))) refusal (omega (arith, one)) memory)
  commit_refused refusal one (inr full) = left_some Commit (Refused refusal) units (omega (arith, one)) (commit_stamps job units ts (shown old.state) (mine_some (omega (arith, one))) refusal (omega (arith, one)) full.0 full.1.0 full.1.1)

  anew_refused : (refusal : Refusal) → old.state.level ≡ 1 → IsCauseAtRestart refusal old.state units → IsExact job Commit (Refused refusal) m units (transaction_in old)
  anew_refused refusal one cause = left_some Commit (Refused refusal) units (omega (arith, one)) (not_begun_anew job units ts (shown old.state) (mine_some (omega (arith, one))) refusal (omega (arith, one)) cause.1.0 cause.0 cause.1.1)

  alone_step : (result : Result Reply Refusal) (new : Held) → old.state.level ≡ 1 → IsCommitted result units new.seen old new → IsStepped units ts Commit (said (λ r. r) result) old new
  alone_step (Ok reply) new one h = subst (λ (r : Reply). IsStepped units ts Commit r old new) (sym h.0) (committed_step new one h.1)
  alone_step (Err refusal) new one h = knows Commit (Refused refusal) new h.1 (λ few. commit_refused refusal one h.0)

  -- ---- TROLLBACK and TRESTART

  -- the unit of a transaction that goes back is there exactly where it took a LOCK
  back_adds : (new : Held) → new.seen ≡ gone_back old.state units → new.receipts ≡ old.receipts → new.others ≡ (went_back new.seen old).others → AddsNone units old new ⊎ AddsOne units old new
  back_adds new now receipts others = by_took old.state.took_lock now others
    where
      by_took : (b : Bool) → new.seen ≡ (if b then units ++ Back job ∷ [] else units) → new.others ≡ (if b then old.others ++ claim (length new.seen) (Back job) ∷ [] else old.others) → AddsNone units old new ⊎ AddsOne units old new
      by_took true here more = inr (
        Back job,
        here,
        (
          refl,
          λ n there.
              let at : length new.seen ≡ length units + 1 = ap length here ∙ length-append units (Back job ∷ []) in
              let all : new.receipts ++ new.others ≡ old.receipts ++ (old.others ++ claim (length units + 1) (Back job) ∷ []) = (λ i. receipts i ++ more i) ∙ ap (λ (k : ℕ). old.receipts ++ (old.others ++ claim k (Back job) ∷ [])) at in
              claimed_other n old.receipts old.others (claim (length units + 1) (Back job)) (subst (IsClaimed n) all there),
        ),
      )
      by_took false here more = inl (here, (receipts, more))

  rolled_step : (result : Result (Unit {0}) Refusal) (new : Held) → 1 ≤ old.state.level → IsRolledBack result units new.seen old new → IsStepped units ts Rollback (said (λ d. Finished) result) old new
  rolled_step (Ok d) new deep h = record {
    exact = λ few.
        subst (λ (us : List JournalUnit). IsExact job Rollback Finished m us (transaction_in new)) (sym h.0)
        (subst (λ (o : Option Transaction). IsExact job Rollback Finished m (gone_back old.state units) o) (sym (ap transaction_in h.1)) (rolled job units ts (shown old.state) (mine_some deep) (subst (λ (us : List JournalUnit). length us < 2 ^ 64) h.0 few)));
    adds = back_adds new h.0 (ap (λ (s : Held). s.receipts) h.1) (ap (λ (s : Held). s.others) h.1);
    job = ap (λ (s : Held). s.state.work.job) h.1;
    standing = subst IsStanding (sym h.1) (record { outside = λ _. refl; inside = λ deep. absurd (omega (arith, deep)) });
  }
  rolled_step (Err refusal) new deep h = knows Rollback (Refused refusal) new h.1 (λ few. left_some Rollback (Refused refusal) units deep (not_rolled job units ts (shown old.state) (mine_some deep) refusal h.0.0 h.0.1))

  -- it begins anew, as the machine's transaction does
  abbrev anew_in : List JournalUnit → Transaction
  anew_in us = shown (anew (length us) old.state)

  anew_step : (command : Command) (reply : Reply) (new : Held) → new.seen ≡ gone_back old.state units → new ≡ begun_anew new.seen old → (length (gone_back old.state units) < 2 ^ 64 → IsExact job command reply m (gone_back old.state units) (Some (anew_in (gone_back old.state units)))) → IsStepped units ts command reply old new
  anew_step command reply new now is exact = record {
    exact = λ few.
        subst (λ (o : Option Transaction). IsExact job command reply m new.seen o) (sym (ap transaction_in is))
        (subst (λ (us : List JournalUnit). IsExact job command reply m us (Some (anew_in us))) (sym now) (exact (subst (λ (us : List JournalUnit). length us < 2 ^ 64) now few)));
    adds = back_adds new now (ap (λ (s : Held). s.receipts) is) (ap (λ (s : Held). s.others) is);
    job = ap (λ (s : Held). s.state.work.job) is;
    standing = subst IsStanding (sym is) (record { outside = λ none. absurd (omega (arith, none)); inside = λ _. (refl, begins_itself new.seen) });
  }

  restarted_step : (result : Result ℕ Refusal) (new : Held) → 1 ≤ old.state.level → IsRestarted result units new.seen old new → IsStepped units ts Restart (said restarted_reply result) old new
  restarted_step (Ok restarts) new deep h =
      let count : restarts ≡ min (old.state.restarts + 1) (2 ^ 64 - 1) = h.0 ∙ ap (λ (s : Held). s.state.restarts) h.1.1 in
      anew_step Restart (restarted_reply restarts) new h.1.0 h.1.1 (λ few. restarted_there job units ts (shown old.state) (mine_some deep) restarts count few)
  restarted_step (Err refusal) new deep h = knows Restart (Refused refusal) new h.1 (λ few. left_some Restart (Refused refusal) units deep (not_restarted job units ts (shown old.state) (mine_some deep) refusal h.0.0 h.0.1))

  -- a TCOMMIT that others may have overtaken
  ended_step : (result : Result Ended Refusal) (new : Held) → old.state.level ≡ 1 → WasEnded result units new.seen old new → IsStepped units ts Commit (said reply_at_end result) old new
  ended_step (Ok Committed) new one h = committed_step new one h
  ended_step (Ok (Restarted restarts)) new one h =
      let count : restarts ≡ min (old.state.restarts + 1) (2 ^ 64 - 1) = h.1.1.1 ∙ ap (λ (s : Held). s.state.restarts) h.1.1.0 in
      anew_step Commit (restarted_reply restarts) new h.1.0 h.1.1.0 (λ few. overtaken_there job units ts (shown old.state) (mine_some (omega (arith, one))) restarts (omega (arith, one)) h.0 count few)
  ended_step (Err refusal) new one h = knows Commit (Refused refusal) new h.1 (λ few. by_cause h.0)
    where
      by_cause : IsCauseAtCommit refusal old.state.work units ⊎ IsCauseAtRestart refusal old.state units → IsExact job Commit (Refused refusal) m units (transaction_in old)
      by_cause (inl cause) = commit_refused refusal one cause
      by_cause (inr cause) = anew_refused refusal one cause

  -- ---- $TLEVEL, $TRESTART

  counted_level : number_in (λ t. t.level) (transaction_in old) ≡ old.state.level
  counted_level = by_level (nat_lt 0 old.state.level) refl
    where
      by_level : (b : Bool) → nat_lt 0 old.state.level ≡ b → number_in (λ t. t.level) (transaction_by b old.state) ≡ old.state.level
      by_level true test = refl
      by_level false test = let none : old.state.level ≡ 0 = grind (arith, nat_tests) in sym none

  counted_restarts : number_in (λ t. t.restarts) (transaction_in old) ≡ old.state.restarts
  counted_restarts = by_level (nat_lt 0 old.state.level) refl
    where
      by_level : (b : Bool) → nat_lt 0 old.state.level ≡ b → number_in (λ t. t.restarts) (transaction_by b old.state) ≡ old.state.restarts
      by_level true test = refl
      by_level false test = let none : old.state.level ≡ 0 = grind (arith, nat_tests) in sym (stands.outside none)

  -- ---- all of them

  by_level : {P : Type 0} (n : ℕ) → (n ≡ 0 → P) → (1 ≤ n → P) → P
  by_level zero outside inside = outside refl
  by_level (suc n) outside inside = inside (omega arith)

  by_levels : {P : Type 0} (n : ℕ) → (n ≡ 0 → P) → (n ≡ 1 → P) → (1 < n → P) → P
  by_levels zero outside outermost inside = outside refl
  by_levels (suc zero) outside outermost inside = outermost refl
  by_levels (suc (suc n)) outside outermost inside = inside (omega arith)

  replied : (command : Command) (reply said : Reply) (new : Held) → reply ≡ said → IsStepped units ts command said old new → IsStepped units ts command reply old new
  replied command reply said new is step = subst (λ (r : Reply). IsStepped units ts command r old new) (sym is) step

  done_step : (command : Command) (reply : Reply) (new : Held) → HasDone command reply units new.seen old new → IsStepped units ts command reply old new
  done_step (Access command) reply new h =
      replied (Access command) reply _ new h.1
      (by_level {P = IsStepped units ts (Access command) (said Answered h.0) old new} old.state.level (λ none. lone_step command h.0 new none (h.2 none)) (λ deep. inside_step command h.0 new deep (h.3 deep)))
  done_step (lock_command command) reply new h = replied (lock_command command) reply _ new h.1 (tried_step command h.0 new h.2)
  done_step Start reply new h =
      replied Start reply _ new h.1
      (by_level {P = IsStepped units ts Start (said AtLevel h.0) old new} old.state.level (λ none. opened_step h.0 new none (h.2 none)) (λ deep. deeper_step h.0 new deep (h.3 deep)))
  done_step Commit reply new h =
      replied Commit reply _ new h.1
      (by_levels {P = IsStepped units ts Commit (said (λ r. r) h.0) old new} old.state.level
      (λ none. none_step Commit (λ r. r) h.0 new none (h.2 none) (λ few. commit_outside job units ts (mine_none none) few))
      (λ one. alone_step h.0 new one (h.3 one))
      (λ deep. lower_step h.0 new deep (h.4 deep)))
  done_step Rollback reply new h =
      replied Rollback reply _ new h.1
      (by_level {P = IsStepped units ts Rollback (said (λ d. Finished) h.0) old new} old.state.level
      (λ none. none_step Rollback (λ d. Finished) h.0 new none (h.2 none) (λ few. rollback_outside job units ts (mine_none none) few))
      (λ deep. rolled_step h.0 new deep (h.3 deep)))
  done_step Restart reply new h =
      replied Restart reply _ new h.1
      (by_level {P = IsStepped units ts Restart (said restarted_reply h.0) old new} old.state.level
      (λ none. none_step Restart restarted_reply h.0 new none (h.2 none) (λ few. restart_outside job units ts (mine_none none) few))
      (λ deep. restarted_step h.0 new deep (h.3 deep)))
  done_step Level reply new h =
      replied Level reply _ new (h.0 ∙ ap Count (sym counted_level)) (stays Level (Count (number_in (λ t. t.level) (transaction_in old))) new h.1 (λ few. level_there job units ts (transaction_in old) mine few))
  done_step Restarts reply new h =
      replied Restarts reply _ new (h.0 ∙ ap Count (sym counted_restarts)) (stays Restarts (Count (number_in (λ t. t.restarts) (transaction_in old))) new h.1 (λ few. restarts_there job units ts (transaction_in old) mine few))
  done_step Halt reply new h = absurd h

  step : (command : Command) (reply : Reply) (new : Held) → WasDone command reply units new.seen old new → IsStepped units ts command reply old new
  step command reply new (inl h) = done_step command reply new h
  step command reply new (inr (inl h)) = subst (λ (c : Command). IsStepped units ts c reply old new) (sym h.0) (replied Commit reply _ new h.1.1.1 (ended_step h.1.1.0 new h.1.0 h.1.1.2))
  step command reply new (inr (inr h)) =
      subst (λ (c : Command). IsStepped units ts c reply old new) (sym h.0) (replied Halt reply _ new h.1.1 (knows Halt (Refused h.1.0) new h.1.2.1 (λ few. not_halted job units ts h.1.0 (transaction_in old) h.1.2.0 mine)))

-- ---- where it stands

last_at : (us rest : List JournalUnit) (u : JournalUnit) → slice_get ((us ++ u ∷ []) ++ rest) (length us) ≡ Some u
last_at [] rest u = refl
last_at (x ∷ us) rest u = last_at us rest u

-- so it is in a journal that goes on from what the session has seen
unit_at : (log seen units : List JournalUnit) (u : JournalUnit) → IsBeginning log seen → seen ≡ units ++ u ∷ [] → slice_get log (length units) ≡ Some u
unit_at log seen units u on is =
    let whole : (units ++ u ∷ []) ++ drop (length seen) log ≡ log = ap (λ (us : List JournalUnit). us ++ drop (length seen) log) (sym is ∙ on.is) ∙ take-append-drop (length seen) log in
    subst (λ (us : List JournalUnit). slice_get us (length units) ≡ Some u) whole (last_at units (drop (length seen) log) u)

-- the units before the step begin those behind it
abbrev MayAdd : List JournalUnit → List JournalUnit → ℕ → Type 0
MayAdd units seen job = (seen ≡ units) ⊎ ((u : JournalUnit) × (seen ≡ units ++ u ∷ []) × (job_of u ≡ job))

begins_before : (units seen : List JournalUnit) (job : ℕ) → MayAdd units seen job → IsBeginning seen units
begins_before units seen whose (inl is) = subst (λ (us : List JournalUnit). IsBeginning us units) (sym is) (begins_itself units)
begins_before units seen whose (inr added) = subst (λ (us : List JournalUnit). IsBeginning us units) (sym added.1) (begins_longer units (added.0 ∷ []) units (begins_itself units))

how_many : (units seen : List JournalUnit) (job : ℕ) → MayAdd units seen job → (length seen ≡ length units) ⊎ (length seen ≡ length units + 1)
how_many units seen whose (inl is) = inl (ap length is)
how_many units seen whose (inr added) = inr (ap length added.1 ∙ length-append units (added.0 ∷ []))

own_at : (log units seen : List JournalUnit) (job : ℕ) → IsBeginning log seen → MayAdd units seen job → length seen ≡ length units + 1 → IsUnitOf log (length units) job
own_at log units seen whose on (inl is) one = absurd (omega (arith, one, ap length is))
own_at log units seen whose on (inr added) one = (added.0, unit_at log seen units added.0 on added.1, added.2)

exact_at : (log units seen : List JournalUnit) (n job : ℕ) (m : Machine) (command : Command) (reply : Reply) (left : Option Transaction) → IsBeginning log seen → MayAdd units seen job → n ≤ length units → IsExact job command reply (record { units = units; transactions = m.transactions }) seen left
    → IsToldAt log n m (step_at job command reply units (length seen)) × (transaction_of job (after_told log m (step_at job command reply units (length seen))) ≡ left)
exact_at log units seen n job m command reply left on adds from exact =
    let before = begins_through log seen units on (begins_before units seen job adds) in
    let there : standing (length units) log m ≡ record { units = units; transactions = m.transactions } = ap (λ (us : List JournalUnit). record { units = us; transactions = m.transactions }) (sym before.is) in (
      record {
        from = from;
        within = on.within;
        one = how_many units seen job adds;
        reply = subst (IsReply job command reply) (sym there) exact.replied;
        units = ap (λ (x : Machine). (told job command reply x).units) there ∙ (exact.units ∙ on.is);
        own = own_at log units seen job on adds;
      },
      ap (λ (x : Machine). transaction_of job (told job command reply x)) there ∙ exact.mine,
    )

may_add : (units : List JournalUnit) (old new : Held) → AddsNone units old new ⊎ AddsOne units old new → MayAdd units new.seen old.state.work.job
may_add units old new (inl none) = inl none.0
may_add units old new (inr one) = inr (one.0, one.1, one.2.0)

written_by : (units : List JournalUnit) (command : Command) (reply : Reply) (old new : Held) → AddsNone units old new ⊎ AddsOne units old new → AreWrittenBy (step_at old.state.work.job command reply units (length new.seen)) (old.receipts ++ old.others) (new.receipts ++ new.others)
written_by units command reply old new (inl none) k there = inl (subst (IsClaimed (k + 1)) (λ i. none.1.0 i ++ none.1.1 i) there)
written_by units command reply old new (inr one) k there = by_claim (one.2.1 (k + 1) there)
  where
    by_claim : IsClaimed (k + 1) (old.receipts ++ old.others) ⊎ (length units + 1 ≡ k + 1) → IsClaimed (k + 1) (old.receipts ++ old.others) ⊎ ((length units ≡ k) × (length new.seen ≡ k + 1))
    by_claim (inl before) = inl before
    by_claim (inr here) = inr (omega (arith, here), ap length one.1 ∙ (length-append units (one.0 ∷ []) ∙ here))

-- a machine that has this transaction of the job
some_machine : (job : ℕ) (o : Option Transaction) → (ts : FinMap nat_cmp Transaction) × (finmap.get ts job ≡ o)
some_machine job None = (finmap.empty, finmap.get-empty nat_cmp job)
some_machine job (Some t) = (finmap.insert finmap.empty job t, get_here finmap.empty job t)

pub steps_exact : StepsAreExact
steps_exact units command reply old new h stands on =
    let some = some_machine old.state.work.job (transaction_in old) in
    let stepped = step units some.0 old some.1 stands on command reply new h in record {
      exact = λ log n m from mine goes_on few.
          let there = step units m.transactions old mine stands on command reply new h in
          exact_at log units new.seen n old.state.work.job m command reply (transaction_in new) goes_on (may_add units old new there.adds) (omega (arith, from, on.within)) (there.exact (omega (arith, goes_on.within, few)));
      goes_on = begins_through new.seen units old.seen (begins_before units new.seen old.state.work.job (may_add units old new stepped.adds)) on;
      job = stepped.job;
      standing = stepped.standing;
      written = written_by units command reply old new stepped.adds;
    }

pub halts_exact : HaltsAreExact
halts_exact units s on = record {
  exact = λ log n m from mine goes_on few.
      exact_at log units (units ++ End s.state.work.job ∷ []) n s.state.work.job m Halt Finished None goes_on (inr (End s.state.work.job, refl, refl)) (omega (arith, from, on.within))
      (halted_there s.state.work.job units m.transactions (omega (arith, goes_on.within, few)));
  goes_on = begins_longer units (End s.state.work.job ∷ []) s.seen on;
  written = λ k claimed. by_claim k (claimed_other (k + 1) s.receipts s.others (claim (length units + 1) (End s.state.work.job)) claimed);
}
  where
    by_claim : (k : ℕ) → IsClaimed (k + 1) (s.receipts ++ s.others) ⊎ (length units + 1 ≡ k + 1) → IsClaimed (k + 1) (s.receipts ++ s.others) ⊎ ((length units ≡ k) × (length (units ++ End s.state.work.job ∷ []) ≡ k + 1))
    by_claim k (inl before) = inl before
    by_claim k (inr here) = inr (omega (arith, here), length-append units (End s.state.work.job ∷ []) ∙ here)
