-- Nobody touches anything while one session's block is done.
use Rattle.std.proofs.Common.{◌≡◌, ◌⊎◌, inl, inr, ℕ, zero, suc, ◌<◌, ◌≤◌, List, [], ◌∷◌, ◌++◌, length, drop, Some, None, refl, sym, ap, ◌∙◌, subst, arith, true≢false}
use Rattle.std.specs.Prelude.{Bool, true, false, ◌||◌, ◌&&◌, Result, Ok, Err, IfOk, OnErr, Option, nat_lt, if◌then◌else◌}
use Rattle.std.specs.List.{list_any}
use Rattle.std.specs.FinMap as finmap
use Rattle.std.proofs.lemmas.List.{take-append-le}
use Rattle.std.proofs.lemmas.List.Folds.{list_any_none}
use Rattle.refusal.specs.declared.Refusal.{Refusal}
use Rattle.collation.specs.Reference.{Reference}
use Rattle.lock_name.specs.declared.lock.LockCommand.{LockCommand}
use Rattle.command.specs.declared.access.DataCommand.{DataCommand}
use Rattle.command.specs.declared.access.Answer.{Answer}
use Rattle.command.specs.declared.request.Command.{Command}
use Rattle.command.specs.declared.request.Command.TheVariants.{Access, Lock as lock_command, Start, Commit, Rollback, Restart, Level, Restarts, Halt}
use Rattle.command.specs.declared.request.Reply.{Reply}
use Rattle.journal.specs.declared.unit.Unit.{Unit as JournalUnit}
use Rattle.journal.specs.declared.unit.Unit.TheVariants.{Lock}
use Rattle.journal.specs.History.{State, after, after_unit, initial}
use Rattle.journal.specs.Touching.{has_read, touched, any_touched}
use Rattle.serial.specs.Machine.{state_at}
use Rattle.validate_commit.specs.Working.{Working}
use Rattle.validate_commit.specs.Verdicts.{has_been_overtaken, IsCauseAtCommit}
use Rattle.job_core.specs.Sessions.{Session as JobSession, after_lock}
use Rattle.shared_engine.specs.Sessions.{Held, knowing, begun_anew, noted_lock}
use Rattle.job_core.specs.Common.{Common}
use Rattle.shared_engine.specs.Engines.{lock_unit, after_try, IsCauseAtRestart}
use Rattle.shared_engine.specs.Writes.{IsQuietSince, IsAlone}
use Rattle.shared_engine.specs.Blocks.{AreSame, HasSeen, IsLone, IsReadAt, IsTried, IsOpened, IsDeeper, IsCommitted, IsRolledBack, IsRestarted, HasDone}
use Rattle.shared_engine.specs.laws.Quiet.{everywhere}
use Rattle.shared_engine.proofs.Starting.{noted_work}

-- ---- no unit since a start touches anything

drop_all : (n : ℕ) (us : List JournalUnit) → n ≡ length us → drop n us ≡ []
drop_all zero [] e = refl
drop_all zero (u ∷ us) e = absurd (omega arith)
drop_all (suc n) [] e = absurd (omega arith)
drop_all (suc n) (u ∷ us) e = drop_all n us (omega arith)

pub quiet_now : (start : ℕ) (units : List JournalUnit) → start ≡ length units → IsQuietSince start units
quiet_now start units is test = ap (λ (us : List JournalUnit). any_touched test us (state_at start units)) (drop_all start units is)

-- a LOCK touches no reference
lock_touches : (test : Reference → Bool) (us : List JournalUnit) (job : ℕ) (inside had : Bool) (command : LockCommand) (s : State) → any_touched test us s ≡ false → any_touched test (us ++ Lock job inside command had ∷ []) s ≡ false
lock_touches test [] job inside had command s h =
    let u = Lock job inside command had in
    let passes : Reference → Bool = λ x. touched u s x && test x in
    let keys : List Reference = finmap.keys s.map ++ finmap.keys (after_unit u s).map in
    let here : list_any passes keys ≡ false = list_any_none passes keys (everywhere passes keys (λ x. refl)) in
    λ i. here i || false
lock_touches test (u ∷ us) job inside had command s h = by_here (list_any (λ x. touched u s x && test x) (finmap.keys s.map ++ finmap.keys (after_unit u s).map)) h (lock_touches test us job inside had command (after_unit u s))
  where
    by_here : (b : Bool) → (b || any_touched test us (after_unit u s)) ≡ false → (any_touched test us (after_unit u s) ≡ false → any_touched test (us ++ Lock job inside command had ∷ []) (after_unit u s) ≡ false)
        → (b || any_touched test (us ++ Lock job inside command had ∷ []) (after_unit u s)) ≡ false
    by_here true e go = absurd (true≢false e)
    by_here false e go = go e

drop_none : (n : ℕ) (us : List JournalUnit) → us ≡ [] → drop n us ≡ []
drop_none zero us e = e
drop_none (suc n) us e = ap (drop (suc n)) e

-- a unit more is behind the start, or the start is behind it
drop_behind : (n : ℕ) (us : List JournalUnit) (u : JournalUnit) → ((n ≤ length us) × (drop n (us ++ u ∷ []) ≡ drop n us ++ u ∷ [])) ⊎ (drop n (us ++ u ∷ []) ≡ [])
drop_behind zero us u = inl (omega arith, refl)
drop_behind (suc n) [] u = inr (drop_none n [] refl)
drop_behind (suc n) (x ∷ us) u = one_more (drop_behind n us u)
  where
    one_more : ((n ≤ length us) × (drop n (us ++ u ∷ []) ≡ drop n us ++ u ∷ [])) ⊎ (drop n (us ++ u ∷ []) ≡ []) → ((suc n ≤ length (x ∷ us)) × (drop n (us ++ u ∷ []) ≡ drop n us ++ u ∷ [])) ⊎ (drop n (us ++ u ∷ []) ≡ [])
    one_more (inl (le, e)) = inl (omega (arith, le), e)
    one_more (inr e) = inr e

pub quiet_lock : (start : ℕ) (units : List JournalUnit) (job : ℕ) (inside had : Bool) (command : LockCommand) → IsQuietSince start units → IsQuietSince start (units ++ Lock job inside command had ∷ [])
quiet_lock start units job inside had command quiet test = by_start (Lock job inside command had) refl (drop_behind start units (Lock job inside command had))
  where
    by_start : (u : JournalUnit) → u ≡ Lock job inside command had → ((start ≤ length units) × (drop start (units ++ u ∷ []) ≡ drop start units ++ u ∷ [])) ⊎ (drop start (units ++ u ∷ []) ≡ []) → any_touched test (drop start (units ++ u ∷ [])) (state_at start (units ++ u ∷ [])) ≡ false
    by_start u is (inl (le, e)) =
        (λ i. any_touched test (e i) (after (take-append-le start units (u ∷ []) le i) initial))
        ∙ subst (λ (x : JournalUnit). any_touched test (drop start units ++ x ∷ []) (state_at start units) ≡ false) (sym is) (lock_touches test (drop start units) job inside had command (state_at start units) (quiet test))
    by_start u is (inr e) = ap (λ (us : List JournalUnit). any_touched test us (state_at start (units ++ u ∷ []))) e

-- ---- a session alone

-- what nobody touched isn't overtaken
pub alone_stands : (s : Held) (units : List JournalUnit) → s.state.level ≡ 1 → IsAlone s units → has_been_overtaken s.state.work units ≡ false
alone_stands s units level alone = alone.quiet (omega (arith, level)) (has_read s.state.work.exchanges (state_at s.state.work.start units).map)

-- nobody overtakes it, so a commit isn't refused for room to go back
pub cause_alone : (s : Held) (units : List JournalUnit) (refusal : Refusal) → s.state.level ≡ 1 → IsAlone s units → IsCauseAtCommit refusal s.state.work units ⊎ IsCauseAtRestart refusal s.state units → IsCauseAtCommit refusal s.state.work units
cause_alone s units refusal level alone (inl cause) = cause
cause_alone s units refusal level alone (inr cause) = absurd (true≢false (sym cause.1.0 ∙ alone_stands s units level alone))

alone_same : (units more : List JournalUnit) (old new : Held) → AreSame units more old new → IsAlone old units → IsAlone new more
alone_same units more old new same alone = subst (λ (us : List JournalUnit). IsAlone new us) (sym same.0) (subst (λ (s : Held). IsAlone s units) (sym same.1) alone)

alone_seen : (units more : List JournalUnit) (old new : Held) → HasSeen units more old new → IsAlone old units → IsAlone new more
alone_seen units more old new same alone =
    subst (λ (us : List JournalUnit). IsAlone new us) (sym same.0) (subst (λ (s : Held). IsAlone s units) (sym same.1) (record { quiet = alone.quiet }))

alone_idle : (more : List JournalUnit) (new : Held) → new.state.level ≡ 0 → IsAlone new more
alone_idle more new none = record { quiet = λ deep. absurd (omega (arith, none, deep)) }

pub alone_now : (more : List JournalUnit) (new : Held) → new.state.work.start ≡ length more → IsAlone new more
alone_now more new start = record { quiet = λ deep. quiet_now new.state.work.start more start }

alone_kept : (units more : List JournalUnit) (old new : Held) → 1 ≤ old.state.level → new.state.work.start ≡ old.state.work.start → more ≡ units → IsAlone old units → IsAlone new more
alone_kept units more old new deep start same alone = record {
  quiet = λ _. subst (λ (us : List JournalUnit). IsQuietSince new.state.work.start us) (sym same) (subst (λ (n : ℕ). IsQuietSince n units) (sym start) (alone.quiet deep));
}

noted_level : (s : JobSession) → (noted_lock s).level ≡ s.level
noted_level s = by_level (nat_lt 0 s.level)
  where
    by_level : (b : Bool) → (if b then after_lock s else s).level ≡ s.level
    by_level true = refl
    by_level false = refl

alone_lone : (command : DataCommand) (result : Result Answer Refusal) (units more : List JournalUnit) (old new : Held) → old.state.level ≡ 0 → IsLone command result units more old new → IsAlone old units → IsAlone new more
alone_lone command (Ok answer) units more old new none h alone = alone_idle more new (ap (λ (s : Held). s.state.level) h.1.1 ∙ none)
alone_lone command (Err refusal) units more old new none h alone = alone_seen units more old new h.1 alone

start_read : (start : Option (List JournalUnit)) (command : DataCommand) (result : Result Answer Refusal) (old new : JobSession) → IsReadAt start command result old new → new.work.start ≡ old.work.start
start_read None command result old new h = absurd h
start_read (Some base) command (Ok answer) old new h = h.start
start_read (Some base) command (Err refusal) old new h = ap (λ (s : JobSession). s.work.start) h.same

alone_noted : (command : LockCommand) (had : Bool) (units more : List JournalUnit) (old new : Held) → more ≡ units ++ lock_unit old.state command had ∷ [] → new ≡ after_try units command had old → IsAlone old units → IsAlone new more
alone_noted command had units more old new is step alone =
    let level : new.state.level ≡ old.state.level = ap (λ (s : Held). s.state.level) step ∙ noted_level old.state in
    let start : new.state.work.start ≡ old.state.work.start = ap (λ (s : Held). s.state.work.start) step ∙ ap (λ (w : Working). w.start) (noted_work old.state) in record {
      quiet = λ deep.
          subst (λ (us : List JournalUnit). IsQuietSince new.state.work.start us) (sym is)
          (subst (λ (m : ℕ). IsQuietSince m (units ++ lock_unit old.state command had ∷ [])) (sym start)
          (quiet_lock old.state.work.start units old.state.work.job (nat_lt 0 old.state.level) had command (alone.quiet (omega (arith, level, deep)))));
    }

alone_tried : (command : LockCommand) (result : Result Bool Refusal) (units more : List JournalUnit) (old new : Held) → IsTried command result units more old new → IsAlone old units → IsAlone new more
alone_tried command (Ok had) units more old new h alone = alone_noted command had units more old new h.1.0 h.1.1 alone
alone_tried command (Err refusal) units more old new h alone = alone_seen units more old new h.1 alone

-- the same by the clauses of a try
pub alone_lock : (command : LockCommand) (result : Result Bool Refusal) (a b : Common) (old new : Held) → IfOk result (λ had. b.units ≡ a.units ++ lock_unit old.state command had ∷ []) → IfOk result (λ had. new ≡ after_try a.units command had old)
    → OnErr result ((b ≡ a) × (new ≡ knowing a.units old)) → IsAlone old a.units → IsAlone new b.units
alone_lock command (Ok had) a b old new units is refused alone = alone_noted command had a.units b.units old new units is alone
alone_lock command (Err refusal) a b old new units is refused alone = alone_seen a.units b.units old new (ap (λ (c : Common). c.units) refused.0, refused.1) alone

alone_opened : (result : Result ℕ Refusal) (units more : List JournalUnit) (old new : Held) → IsOpened result units more old new → IsAlone old units → IsAlone new more
alone_opened (Ok level) units more old new h alone = alone_now more new (ap (λ (s : Held). s.state.work.start) h.1.1.is ∙ ap length (sym h.1.0))
alone_opened (Err refusal) units more old new h alone = absurd h

alone_deeper : (result : Result ℕ Refusal) (units more : List JournalUnit) (old new : Held) → 1 ≤ old.state.level → IsDeeper result units more old new → IsAlone old units → IsAlone new more
alone_deeper (Ok level) units more old new deep h alone = alone_kept units more old new deep (ap (λ (s : Held). s.state.work.start) h.1.1) h.1.0 alone
alone_deeper (Err refusal) units more old new deep h alone = alone_same units more old new h.1 alone

alone_committed : (result : Result Reply Refusal) (units more : List JournalUnit) (old new : Held) → IsCommitted result units more old new → IsAlone old units → IsAlone new more
alone_committed (Ok reply) units more old new h alone = alone_idle more new (ap (λ (s : Held). s.state.level) h.1.1.1)
alone_committed (Err refusal) units more old new h alone = alone_seen units more old new h.1 alone

alone_back : (result : Result (Unit {0}) Refusal) (units more : List JournalUnit) (old new : Held) → IsRolledBack result units more old new → IsAlone old units → IsAlone new more
alone_back (Ok done) units more old new h alone = alone_idle more new (ap (λ (s : Held). s.state.level) h.1)
alone_back (Err refusal) units more old new h alone = alone_seen units more old new h.1 alone

alone_anew : (result : Result ℕ Refusal) (units more : List JournalUnit) (old new : Held) → IsRestarted result units more old new → IsAlone old units → IsAlone new more
alone_anew (Ok restarts) units more old new h alone = alone_now more new (ap (λ (s : Held). s.state.work.start) h.1.1)
alone_anew (Err refusal) units more old new h alone = alone_seen units more old new h.1 alone

by_level : {P : Type 0} (n : ℕ) → (n ≡ 0 → P) → (1 ≤ n → P) → P
by_level zero outside inside = outside refl
by_level (suc n) outside inside = inside (omega arith)

by_levels : {P : Type 0} (n : ℕ) → (n ≡ 0 → P) → (n ≡ 1 → P) → (1 < n → P) → P
by_levels zero outside outermost inside = outside refl
by_levels (suc zero) outside outermost inside = outermost refl
by_levels (suc (suc n)) outside outermost inside = inside (omega arith)

pub alone_done : (command : Command) (reply : Reply) (units more : List JournalUnit) (old new : Held) → HasDone command reply units more old new → IsAlone old units → IsAlone new more
alone_done (Access command) reply units more old new h alone =
    by_level {P = IsAlone new more} old.state.level (λ none. alone_lone command h.0 units more old new none (h.2 none) alone)
    (λ deep. let read = h.3 deep in alone_kept units more old new deep (start_read old.start command h.0 old.state new.state read.0) read.1.0 alone)
alone_done (lock_command command) reply units more old new h alone = alone_tried command h.0 units more old new h.2 alone
alone_done Start reply units more old new h alone =
    by_level {P = IsAlone new more} old.state.level (λ none. alone_opened h.0 units more old new (h.2 none) alone) (λ deep. alone_deeper h.0 units more old new deep (h.3 deep) alone)
alone_done Commit reply units more old new h alone =
    by_levels {P = IsAlone new more} old.state.level (λ none. alone_same units more old new (h.2 none).1 alone) (λ one. alone_committed h.0 units more old new (h.3 one) alone)
    (λ deep. let lower = h.4 deep in alone_kept units more old new (omega (arith, deep)) (ap (λ (s : Held). s.state.work.start) lower.1.1) lower.1.0 alone)
alone_done Rollback reply units more old new h alone =
    by_level {P = IsAlone new more} old.state.level (λ none. alone_same units more old new (h.2 none).1 alone) (λ deep. alone_back h.0 units more old new (h.3 deep) alone)
alone_done Restart reply units more old new h alone =
    by_level {P = IsAlone new more} old.state.level (λ none. alone_same units more old new (h.2 none).1 alone) (λ deep. alone_anew h.0 units more old new (h.3 deep) alone)
alone_done Level reply units more old new h alone = alone_same units more old new h.1 alone
alone_done Restarts reply units more old new h alone = alone_same units more old new h.1 alone
alone_done Halt reply units more old new h alone = absurd h

-- a transaction that begins anew behind these units, or none
pub alone_anew_now : (units : List JournalUnit) (s now : Held) → now ≡ begun_anew units s → IsAlone now units
alone_anew_now units s now is = alone_now units now (ap (λ (x : Held). x.state.work.start) is)

pub alone_outside : (units : List JournalUnit) (s now : Held) → s.state.level ≡ 0 → now ≡ knowing units s → IsAlone now units
alone_outside units s now none is = alone_idle units now (ap (λ (x : Held). x.state.level) is ∙ none)
