-- Room is kept for the ends of the jobs that are at work.
use Rattle.std.proofs.Common.{◌≡◌, ◌≤◌, ◌<◌, ◌+◌, ◌-◌, ℕ, zero, suc, Bool, true, false, List, [], ◌∷◌, ◌++◌, length, set, get_or, refl, sym, ap, subst, ◌∙◌, ◌⊎◌, inl, inr, arith}
use Rattle.std.proofs.lemmas.List.{get_or-set_same, get_or-set_other}
use Rattle.std.specs.Prelude.{◌||◌, is_some, Option, Some, None}
use Rattle.std.specs.FinMap as finmap
use Rattle.std.specs.Ordering.{nat_cmp}
use Rattle.refusal.specs.declared.Refusal.{Refusal}
use Rattle.refusal.specs.declared.Refusal.TheVariants.{OutOfMemory, StampsUsedUp}
use Rattle.collation.specs.Reference.{Reference}
use Rattle.command.specs.Data.{data_refusal}
use Rattle.command.specs.declared.access.DataCommand.{DataCommand}
use Rattle.command.specs.declared.request.Command.{Command}
use Rattle.command.specs.declared.request.Command.TheVariants.{Access, Halt}
use Rattle.command.specs.declared.request.Reply.{Reply}
use Rattle.command.specs.declared.request.Reply.TheVariants.{Answered, Finished, Had, Count, AtLevel, Committed, Restarted, Refused}
use Rattle.globals.specs.Answering.{IsRuleOrMemory, early_refusal}
use Rattle.journal.specs.Adopted.{adopted_units, settings_of, ends as nobodys}
use Rattle.journal.specs.declared.unit.Unit.{Unit as JournalUnit}
use Rattle.journal.specs.declared.unit.Unit.TheVariants.{Whole, End}
use Rattle.journal.specs.History.{initial, after}
use Rattle.journal.specs.Kept.{Claim, HasNoNumber}
use Rattle.journal.specs.Story.{Transaction, Machine, nothing_done, transaction_of, told}
use Rattle.serial.specs.Machine.{reply_of, early_of, takes_none, IsReply}
use Rattle.serial.specs.laws.ByJob.{same_or_not}
use Rattle.job_core.specs.declared.engine.Engine.{Engine}
use Rattle.job_core.specs.AtWork.{works_on, is_at_work, tally, AreKept}
use Rattle.job_core.specs.Common.{Common, HasAdded, one_end_fewer}
use Rattle.job_core.specs.Sessions.{Sessions, machine_of}
use Rattle.job_core.specs.Joined.{IsJoined, IsWhole, IsStep, IsHorizon, machine_shown}
use Rattle.job_core.specs.laws.AtWork.{works_more, other_works, others_work, rests_halted}
use Rattle.job_core.proofs.ByReference.{unchanged_same}
use Rattle.job_core.proofs.Cases.{shows, ended, not_ended}
use Rattle.job_core.proofs.DataCommands.{refused_outside}
use Rattle.job_core.proofs.Replies.{step_no_memory, step_from}

-- ---- flags

pub tally_more : (flags : List Bool) (n : ℕ) → n < length flags → get_or flags n false ≡ false → tally (set flags n true) ≡ tally flags + 1
tally_more [] n lt e = absurd (omega (arith, lt))
tally_more (true ∷ flags) zero lt e = absurd cc
tally_more (false ∷ flags) zero lt e = omega arith
tally_more (true ∷ flags) (suc n) lt e = let h = tally_more flags n (omega (arith, lt)) e in omega (arith, h)
tally_more (false ∷ flags) (suc n) lt e = tally_more flags n (omega (arith, lt)) e

pub tally_less : (flags : List Bool) (n : ℕ) → n < length flags → get_or flags n false ≡ true → tally (set flags n false) + 1 ≡ tally flags
tally_less [] n lt e = absurd (omega (arith, lt))
tally_less (true ∷ flags) zero lt e = omega arith
tally_less (false ∷ flags) zero lt e = absurd cc
tally_less (true ∷ flags) (suc n) lt e = let h = tally_less flags n (omega (arith, lt)) e in omega (arith, h)
tally_less (false ∷ flags) (suc n) lt e = tally_less flags n (omega (arith, lt)) e

-- a flag that is set is there
pub flag_within : (flags : List Bool) (n : ℕ) → get_or flags n false ≡ true → n < length flags
flag_within [] n e = absurd cc
flag_within (flag ∷ flags) zero e = omega arith
flag_within (flag ∷ flags) (suc n) e = let h = flag_within flags n e in omega (arith, h)

-- one more that isn't set
pub tally_longer : (flags : List Bool) → tally (flags ++ false ∷ []) ≡ tally flags
tally_longer [] = refl
tally_longer (true ∷ flags) = ap (λ n. 1 + n) (tally_longer flags)
tally_longer (false ∷ flags) = tally_longer flags

pub flags_longer : (flags : List Bool) (n : ℕ) → get_or (flags ++ false ∷ []) n false ≡ get_or flags n false
flags_longer [] zero = refl
flags_longer [] (suc n) = refl
flags_longer (flag ∷ flags) zero = refl
flags_longer (flag ∷ flags) (suc n) = flags_longer flags n

-- ---- one step

pub kept_same : (flags : List Bool) (ends more : ℕ) (s t : Machine) → AreKept flags ends s → more ≡ ends → t ≡ s → AreKept flags more t
kept_same flags ends more s t h e is = subst (λ n. AreKept flags n t) (sym e) (subst (AreKept flags ends) (sym is) h)

pub kept_alike : (flags new : List Bool) (ends more : ℕ) (s : Machine) → AreKept flags ends s → tally new ≡ tally flags → ((n : ℕ) → get_or new n false ≡ get_or flags n false) → more ≡ ends → AreKept new more s
kept_alike flags new ends more s h t same e = record { room = omega (arith, h.room, t, e); each = λ job low works. same job ∙ h.each job low works }

-- a job whose flag isn't set rests
pub rests : (flags : List Bool) (ends : ℕ) (job : ℕ) (s : Machine) → AreKept flags ends s → 1 ≤ job → get_or flags job false ≡ false → is_at_work job s ≡ true → ⊥
rests flags ends job s h low none works = let never : true ≡ false = sym (h.each job low works) ∙ none in absurd (cc)

pub rests_outside : (flags : List Bool) (ends : ℕ) (job : ℕ) (s : Machine) → AreKept flags ends s → 1 ≤ job → get_or flags job false ≡ false → transaction_of job s ≡ None
rests_outside flags ends job s h low none = by_found (transaction_of job s) refl
  where
    by_found : (o : Option Transaction) → transaction_of job s ≡ o → o ≡ None
    by_found None is = refl
    by_found (Some t) is = absurd (rests flags ends job s h low none (ap (λ (x : Option Transaction). is_some x || works_on job s.units false) is))

pub kept_more : (flags : List Bool) (ends job : ℕ) (s : Machine) → AreKept flags ends s → job < length flags → get_or flags job false ≡ false → AreKept (set flags job true) (ends + 1) s
kept_more flags ends job s h lt none = record {
  room = let more = tally_more flags job lt none in omega (arith, more, h.room);
  each = λ q low works. by_job q low works (same_or_not q job);
}
  where
    by_job : (q : ℕ) → 1 ≤ q → is_at_work q s ≡ true → (job ≡ q) ⊎ (q ≡ job → ⊥) → get_or (set flags job true) q false ≡ true
    by_job q low works (inl is) = ap (λ n. get_or (set flags job true) n false) (sym is) ∙ get_or-set_same flags job true false lt
    by_job q low works (inr ne) = get_or-set_other flags job q true false ne ∙ h.each q low works

-- a step of a job whose flag is set
pub kept_told : (flags : List Bool) (ends job : ℕ) (command : Command) (reply : Reply) (s : Machine) → AreKept flags ends s → get_or flags job false ≡ true → AreKept flags ends (told job command reply s)
kept_told flags ends job command reply s h flag = record { room = h.room; each = λ q low works. by_job q low works (same_or_not q job) }
  where
    by_job : (q : ℕ) → 1 ≤ q → is_at_work q (told job command reply s) ≡ true → (job ≡ q) ⊎ (q ≡ job → ⊥) → get_or flags q false ≡ true
    by_job q low works (inl is) = ap (λ n. get_or flags n false) (sym is) ∙ flag
    by_job q low works (inr ne) = h.each q low (sym (others_work q job ne command reply s) ∙ works)

-- so of one, by what a step of an engine is
pub kept_step : (flags : List Bool) (ends more job : ℕ) (command : Command) (reply : Reply) (s t : Machine) → AreKept flags ends s → get_or flags job false ≡ true → more ≡ ends → t ≡ told job command reply s → AreKept flags more t
kept_step flags ends more job command reply s t h flag e is = kept_same flags ends more (told job command reply s) t (kept_told flags ends job command reply s h flag) e is

-- a HALT, done or refused, of a job that has no flag
pub kept_halted : (flags : List Bool) (ends job : ℕ) (reply : Reply) (s : Machine) → AreKept flags ends s → AreKept flags ends (told job Halt reply s)
kept_halted flags ends job Finished s h = record { room = h.room; each = λ q low works. by_job q low works (same_or_not q job) }
  where
    by_job : (q : ℕ) → 1 ≤ q → is_at_work q (told job Halt Finished s) ≡ true → (job ≡ q) ⊎ (q ≡ job → ⊥) → get_or flags q false ≡ true
    by_job q low works (inl is) = let never : true ≡ false = sym works ∙ ap (λ n. is_at_work n (told job Halt Finished s)) (sym is) ∙ rests_halted job s in absurd (cc)
    by_job q low works (inr ne) = h.each q low (sym (others_work q job ne Halt Finished s) ∙ works)
kept_halted flags ends job (Answered answer) s h = h
kept_halted flags ends job (Had had) s h = h
kept_halted flags ends job (Count n) s h = h
kept_halted flags ends job (AtLevel n) s h = h
kept_halted flags ends job Committed s h = h
kept_halted flags ends job (Restarted n) s h = h
kept_halted flags ends job (Refused refusal) s h = h

-- a HALT that is done of one that has
pub kept_ended : (flags : List Bool) (ends job : ℕ) (s : Machine) → AreKept flags ends s → get_or flags job false ≡ true → AreKept (set flags job false) (ends - 1) (told job Halt Finished s)
kept_ended flags ends job s h flag = record {
  room = let less = tally_less flags job (flag_within flags job flag) flag in omega (arith, less, h.room);
  each = λ q low works. by_job q low works (same_or_not q job);
}
  where
    by_job : (q : ℕ) → 1 ≤ q → is_at_work q (told job Halt Finished s) ≡ true → (job ≡ q) ⊎ (q ≡ job → ⊥) → get_or (set flags job false) q false ≡ true
    by_job q low works (inl is) = let never : true ≡ false = sym works ∙ ap (λ n. is_at_work n (told job Halt Finished s)) (sym is) ∙ rests_halted job s in absurd (cc)
    by_job q low works (inr ne) = get_or-set_other flags job q false false ne ∙ h.each q low (sym (others_work q job ne Halt Finished s) ∙ works)

-- there is room where a flag is set
pub room_there : (flags : List Bool) (ends job : ℕ) (s : Machine) → AreKept flags ends s → get_or flags job false ≡ true → 1 ≤ ends
room_there flags ends job s h flag = let less = tally_less flags job (flag_within flags job flag) flag in omega (arith, less, h.room)

-- ---- the beginning

kept_rest : (ends : ℕ) (s : Machine) → ((job : ℕ) → 1 ≤ job → is_at_work job s ≡ false) → AreKept [] ends s
kept_rest ends s none = record { room = omega arith; each = λ job low works. let never : true ≡ false = sym works ∙ none job low in absurd (cc) }

all_rest : (units : List JournalUnit) (job : ℕ) → works_on job units false ≡ false → is_at_work job (record { units = units; transactions = finmap.empty }) ≡ false
all_rest units job none = ap (λ (o : Option Transaction). is_some o || works_on job units false) (finmap.get-empty nat_cmp job) ∙ none

pub kept_none : (ends : ℕ) (s : Machine) → s ≡ nothing_done → AreKept [] ends s
kept_none ends s is = subst (AreKept [] ends) (sym is) (kept_rest ends nothing_done (λ job low. all_rest [] job refl))

nobody : (job : ℕ) → 1 ≤ job → job ≡ 0 → ⊥
nobody job low is = absurd (omega (arith, low, is))

ends_rest : (job n : ℕ) → 1 ≤ job → works_on job (nobodys n) false ≡ false
ends_rest job zero low = refl
ends_rest job (suc n) low = ap (works_on job (nobodys n)) (other_works job (End 0) false (nobody job low)) ∙ ends_rest job n low

adopted_rest : (job n : ℕ) (nodes : List (Reference × List ℕ)) → 1 ≤ job → works_on job (adopted_units n nodes) false ≡ false
adopted_rest job zero nodes low = refl
adopted_rest job (suc n) nodes low =
    works_more job (nobodys n) (Whole 0 (settings_of nodes)) false ∙ other_works job (Whole 0 (settings_of nodes)) (works_on job (nobodys n) false) (nobody job low) ∙ ends_rest job n low

-- a core that has taken a store over
pub kept_adopted : (n kept : ℕ) (nodes : List (Reference × List ℕ)) (units : List JournalUnit) (s : Machine) → units ≡ adopted_units n nodes → s ≡ record { units = units; transactions = finmap.empty } → AreKept [] kept s
kept_adopted n kept nodes units s made is = subst (AreKept [] kept) (sym is) (kept_rest kept (record { units = units; transactions = finmap.empty }) (λ job low. all_rest units job (ap (λ us. works_on job us false) made ∙ adopted_rest job n nodes low)))

-- ---- an engine with room for an end more

module _ (old : Engine) (core : Common) (n : ℕ) (is : core ≡ record old.core { ends = n }) where
  abbrev pub roomier : Engine
  roomier = record old { core = core }

  pub roomier_whole : IsWhole old → IsWhole roomier
  roomier_whole whole = subst (λ c. IsJoined c old.sessions) (sym is) (record { agreed = whole.agreed; opened = whole.opened })

  pub roomier_shown : machine_shown roomier ≡ machine_shown old
  roomier_shown = ap (λ (c : Common). machine_of c.units old.sessions) is

  pub roomier_base : core.base ≡ old.core.base
  roomier_base = ap (λ (c : Common). c.base) is

  pub roomier_step : (job : ℕ) (command : Command) (reply : Reply) (new : Engine) → IsStep job command reply roomier new → IsStep job command reply old new
  roomier_step job command reply new step = step_from job command reply old roomier new roomier_shown step

-- ---- where there is no room

-- a command that has no rule of its own
pub wants : (command : DataCommand) (refusal : Refusal) (job : ℕ) (s : Machine) → refusal ≡ OutOfMemory → transaction_of job s ≡ None → early_refusal command ≡ None → IsReply job (Access command) (Refused refusal) s
wants command refusal job s memory none late = inr (ap Refused memory, record { late = ap (early_of (Access command)) none ∙ late; takes = refl })

module _ (job : ℕ) (old : Engine) (whole : IsWhole old) (none : finmap.get old.sessions job ≡ None) where
  pub refused_unkept : (command : DataCommand) (refusal : Refusal) → ((rule : Refusal) → early_refusal command ≡ Some rule → refusal ≡ rule) → IsRuleOrMemory refusal (data_refusal command (after old.core.units initial).map) → IsStep job (Access command) (Refused refusal) old old
  refused_unkept command refusal early cause =
      refused_outside job command old whole {A = Claim} refusal old.core none (inl cause) (unchanged_same old.core old.core refl) (let agreed = whole.agreed in agreed) (λ rule is. let told : refusal ≡ rule = early rule is in cc)

  -- one that takes memory outside a transaction, and has no rule
  pub wanting_unkept : (command : Command) → early_of command None ≡ None → takes_none command None ≡ false → IsStep job command (Refused OutOfMemory) old old
  wanting_unkept command late takes =
      let t = shows old job None none in
      step_no_memory job command old old whole OutOfMemory refl refl (record { late = ap (early_of command) t ∙ late; takes = ap (takes_none command) t ∙ takes })

-- ---- a HALT into the room that is kept

fewer_whole : (c : Common) (ss : Sessions) → IsJoined c ss → IsJoined (one_end_fewer c) ss
fewer_whole c ss whole = record { agreed = whole.agreed; opened = whole.opened }

module _ (job : ℕ) (old : Engine) (whole : IsWhole old) where
  abbrev fewer : Engine
  fewer = record old { core = one_end_fewer old.core }

  pub ended_kept : (core : Common) (ss : Sessions) (receipt : Claim) (o : Option ℕ) → HasAdded (End job) receipt o (one_end_fewer old.core) core → IsHorizon o old.core.store.present old.sessions → ss ≡ finmap.remove old.sessions job → IsStep job Halt Finished old (record old { core = core; sessions = ss })
  ended_kept core ss receipt o added horizon closed = step_from job Halt Finished old fewer (record old { core = core; sessions = ss }) refl (ended job fewer (fewer_whole old.core old.sessions whole) core ss receipt o added horizon closed)

  pub not_ended_kept : (core : Common) (refusal : Refusal) → core ≡ old.core → HasNoNumber refusal 1 (length old.core.units) → IsStep job Halt (Refused refusal) old (record old { core = core })
  not_ended_kept core refusal same cause = not_ended job old whole core refusal same (inr cause)

-- done, or refused by a full journal
pub sure_done : (job : ℕ) (s : Machine) → IsReply job Halt Finished s → Finished ≡ reply_of job Halt s
sure_done job s (inl e) = e
sure_done job s (inr memory) = let never : Finished ≡ Refused OutOfMemory = memory.0 in absurd (cc)

pub sure_full : (job : ℕ) (refusal : Refusal) (s : Machine) → refusal ≡ StampsUsedUp → IsReply job Halt (Refused refusal) s → Refused refusal ≡ reply_of job Halt s
sure_full job refusal s full (inl e) = e
sure_full job refusal s full (inr memory) = let never : Refused StampsUsedUp ≡ Refused OutOfMemory = ap Refused (sym full) ∙ memory.0 in absurd (cc)
