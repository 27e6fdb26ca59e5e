-- What a call tells of the moment at which it had all that is shared: for who takes the steps of `Locked`.
use Rattle.std.proofs.Common.{◌≡◌, ℕ, Bool, true, false, List, [], ◌∷◌, ◌++◌, length, Some, None, sym, ap, ◌∙◌, subst, Result, Ok, Err, IfOk, OnOk, OnErr}
use Rattle.std.specs.Prelude.{IfErr, IsErrOf, if◌then◌else◌, ◌⊎◌}
use Rattle.refusal.specs.declared.Refusal.{Refusal}
use Rattle.lock_name.specs.declared.lock.LockCommand.{LockCommand}
use Rattle.lock_name.specs.Locks.{lock_refusal, lock_reply}
use Rattle.command.specs.declared.access.DataCommand.{DataCommand}
use Rattle.command.specs.declared.access.Answer.{Answer}
use Rattle.command.specs.Data.{data_refusal, data_reply}
use Rattle.globals.specs.Answering.{early_refusal}
use Rattle.journal.specs.declared.unit.Unit.{Unit as JournalUnit}
use Rattle.journal.specs.declared.unit.Unit.TheVariants.{Lone, Back}
use Rattle.journal.specs.History.{initial, after}
use Rattle.journal.specs.Kept.{HasNoRoom}
use Rattle.job_core.specs.Causes.{IsCauseOf}
use Rattle.job_core.specs.Common.{IsCauseOfLock}
use Rattle.job_core.specs.Sessions.{Session as JobSession}
use Rattle.pin_board.specs.Slips.{IsBeginning}
use Rattle.shared_engine.specs.Sessions.{Held, held, knowing, ended, and_receipt, went_back, rolled_back, begun_anew, IsJournalOf}
use Rattle.shared_engine.specs.Engines.{gone_back, after_try, OnOkThat, HasEnded, IsCauseAtRestart}
use Rattle.shared_engine.specs.Blocks.{IsLone, WasTried, IsRolledBack, IsRestarted}
use Rattle.validate_commit.specs.Verdicts.{IsCauseAtCommit}
use Rattle.shared_engine.specs.declared.locked.Ended.{Ended}
use Rattle.shared_engine.specs.laws.Seen.{ended_seen}
use Rattle.shared_engine.specs.Receipts.{claim}

-- the unit of a rollback is there exactly where the transaction took a LOCK
abbrev pub others_back : Bool → List JournalUnit → Held → Held
others_back b units s = held s.state s.start s.receipts (if b then s.others ++ claim (length units) (Back s.state.work.job) ∷ [] else s.others) (if b then units else s.seen)

pub back_free : (units : List JournalUnit) (s : Held) → s.state.took_lock ≡ false → s ≡ went_back units s
back_free units s free = ap (λ (b : Bool). others_back b units s) (sym free)

-- ---- what a call says once the lock is free

-- a lone command, by its clauses under the lock
pub lone_done : (A : Type 0) (command : DataCommand) (result : Result Answer Refusal) (units : List JournalUnit) (old new : Held) → IfOk result (λ answer. answer ≡ data_reply command (after units initial).map) → OnOk result (data_refusal command (after units initial).map ≡ None)
    → IfOk result (λ answer. new ≡ and_receipt units (Lone old.state.work.job command answer) old) → OnErr result (A × (new ≡ knowing units old)) → ((rule : Refusal) → early_refusal command ≡ Some rule → IsErrOf result rule)
    → IfErr result (λ refusal. IsCauseOf refusal command (after units initial).map (length units)) → IsLone command result units new.seen old new
lone_done A command (Ok answer) units old new is allowed receipt refused early cause = ((is, allowed), (ap (λ (s : Held). s.seen) receipt, receipt))
lone_done A command (Err refusal) units old new is allowed receipt refused early cause = ((cause, early), (ap (λ (s : Held). s.seen) refused.1, refused.1))

-- a try of a LOCK
pub tried_done : (command : LockCommand) (had : Bool) (units : List JournalUnit) (old new : Held) → IsBeginning units old.seen → had ≡ lock_reply old.state.work.job command (after units initial).locks → lock_refusal old.state.work.job command (after units initial).locks ≡ None
    → new ≡ after_try units command had old → WasTried command (Ok had) old new
tried_done command had units old new goes_on is allowed receipt = (units, goes_on, ((is, allowed), (ap (λ (s : Held). s.seen) receipt, receipt)))

pub tried_refused : (command : LockCommand) (refusal : Refusal) (units : List JournalUnit) (old new : Held) → IsBeginning units old.seen → IsCauseOfLock refusal old.state.work.job command units → new ≡ knowing units old → WasTried command (Err refusal) old new
tried_refused command refusal units old new goes_on cause is = (units, goes_on, (cause, (ap (λ (s : Held). s.seen) is, is)))

-- the first
pub tried_first : (command : LockCommand) (r : Result Bool Refusal) (units : List JournalUnit) (old new : Held) → IsBeginning units old.seen → IfOk r (λ had. had ≡ lock_reply old.state.work.job command (after units initial).locks)
    → OnOk r (lock_refusal old.state.work.job command (after units initial).locks ≡ None) → IfOk r (λ had. new ≡ after_try units command had old) → IfOk r (λ had. WasTried command (Ok had) old new)
tried_first command (Ok had) units old new goes_on is allowed receipt = tried_done command had units old new goes_on is allowed receipt
tried_first command (Err refusal) units old new goes_on is allowed receipt = tt

pub refused_first : (A : Type 0) (command : LockCommand) (r : Result Bool Refusal) (units : List JournalUnit) (old new : Held) → IsBeginning units old.seen → IfErr r (λ refusal. IsCauseOfLock refusal old.state.work.job command units) → OnErr r (A × (new ≡ knowing units old))
    → IfErr r (λ refusal. WasTried command (Err refusal) old new)
refused_first A command (Ok had) units old new goes_on cause is = tt
refused_first A command (Err refusal) units old new goes_on cause is = tried_refused command refusal units old new goes_on cause is.1

-- a later one
pub tried_again : (command : LockCommand) (r : Result Bool Refusal) (units : List JournalUnit) (old new : Held) → OnOkThat r (IsBeginning units old.seen) → OnOkThat r (lock_reply old.state.work.job command (after units initial).locks ≡ true)
    → OnOkThat r (lock_refusal old.state.work.job command (after units initial).locks ≡ None) → OnOkThat r (new ≡ after_try units command true old) → OnOkThat r (WasTried command (Ok true) old new)
tried_again command (Ok true) units old new goes_on is allowed receipt = tried_done command true units old new goes_on (sym is) allowed receipt
tried_again command (Ok false) units old new goes_on is allowed receipt = tt
tried_again command (Err refusal) units old new goes_on is allowed receipt = tt

pub refused_again : (A : Type 0) (command : LockCommand) (r : Result Bool Refusal) (units : List JournalUnit) (old new : Held) → IfErr r (λ refusal. IsCauseOfLock refusal old.state.work.job command units) → OnErr r (IsBeginning units old.seen × (A × (new ≡ knowing units old)))
    → IfErr r (λ refusal. WasTried command (Err refusal) old new)
refused_again A command (Ok had) units old new cause is = tt
refused_again A command (Err refusal) units old new cause is = tried_refused command refusal units old new is.0 cause is.1.1

-- a transaction that took no LOCK is rolled back, and nothing is looked at
pub rolled_free : (old new : Held) → old.state.took_lock ≡ false → new ≡ ended old → IsRolledBack (Ok tt) old.seen new.seen old new
rolled_free old new free is =
    let none : gone_back old.state old.seen ≡ old.seen = ap (λ (b : Bool). if b then old.seen ++ Back old.state.work.job ∷ [] else old.seen) free in
    (ap (λ (s : Held). s.seen) is ∙ sym none, is ∙ ap ended (back_free new.seen old free))

-- one that took a LOCK
pub rolled_done : (A : Type 0) (r : Result (Unit {0}) Refusal) (units more : List JournalUnit) (old new : Held) → old.state.took_lock ≡ true → (old.state.took_lock ≡ true → IsBeginning units old.seen) → OnOk r (more ≡ gone_back old.state units) → OnOk r (new ≡ rolled_back more old)
    → OnErr r (A × (new ≡ knowing units old)) → IfErr r (λ refusal. HasNoRoom refusal 1 (length units) × (old.state.took_lock ≡ true)) → (us : List JournalUnit) × IsBeginning us old.seen × IsRolledBack r us new.seen old new
rolled_done A (Ok done) units more old new took goes_on is over refused cause =
    let seen : new.seen ≡ more = ap (λ (s : Held). s.seen) over ∙ ap (λ (b : Bool). if b then more else old.seen) took in
    (units, goes_on took, (seen ∙ is, over ∙ ap (λ (us : List JournalUnit). rolled_back us old) (sym seen)))
rolled_done A (Err refusal) units more old new took goes_on is over refused cause = (units, goes_on took, (cause, (ap (λ (s : Held). s.seen) refused.1, refused.1)))

-- it begins anew
pub anew_done : (A : Type 0) (r : Result ℕ Refusal) (units more : List JournalUnit) (old new : Held) → IsBeginning units old.seen → OnOk r (more ≡ gone_back old.state units) → IfOk r (λ restarts. (new ≡ begun_anew more old) × (restarts ≡ new.state.restarts))
    → OnErr r (A × (new ≡ knowing units old)) → IfErr r (λ refusal. HasNoRoom refusal 1 (length units) × (old.state.took_lock ≡ true)) → (us : List JournalUnit) × IsBeginning us old.seen × IsRestarted r us new.seen old new
anew_done A (Ok restarts) units more old new goes_on is anew refused cause =
    let seen : new.seen ≡ more = ap (λ (s : Held). s.seen) anew.0 in (units, goes_on, (anew.1, (seen ∙ is, anew.0 ∙ ap (λ (us : List JournalUnit). begun_anew us old) (sym seen))))
anew_done A (Err refusal) units more old new goes_on is anew refused cause = (units, goes_on, (cause, (ap (λ (s : Held). s.seen) refused.1, refused.1)))

pub anew_journal : (r : Result ℕ Refusal) (more : List JournalUnit) (old new : Held) → IfOk r (λ restarts. (new ≡ begun_anew more old) × (restarts ≡ new.state.restarts)) → OnOk r (IsJournalOf more old) → OnOk r (IsJournalOf new.seen old)
anew_journal (Ok restarts) more old new anew journal = subst (λ (us : List JournalUnit). IsJournalOf us old) (sym (ap (λ (s : Held). s.seen) anew.0)) journal
anew_journal (Err refusal) more old new anew journal = tt

-- what a block did is told of the journal that the session has seen then
pub come_at : {A E : Type 0} (r : Result A E) (units more : List JournalUnit) (old new : Held) (P : List JournalUnit → List JournalUnit → A → Type 0) → OnOk r (IsJournalOf units old) → OnOk r (new.seen ≡ more) → IfOk r (P units more)
    → IfOk r (λ a. (us : List JournalUnit) × IsJournalOf us old × P us new.seen a)
come_at (Ok a) units more old new P journal seen h = (units, journal, subst (λ (us : List JournalUnit). P units us a) (sym seen) h)
come_at (Err e) units more old new P journal seen h = tt

pub anew_come : {A E : Type 0} (r : Result A E) (units more : List JournalUnit) (old new : Held) (P : List JournalUnit → List JournalUnit → A → Type 0) → IsBeginning units old.seen → OnOk r (IsJournalOf (gone_back old.state units) old) → OnOk r (new.seen ≡ more) → IfOk r (P (gone_back old.state units) more)
    → IfOk r (λ a. (us : List JournalUnit) × IsBeginning us old.seen × IsJournalOf (gone_back old.state us) old × P (gone_back old.state us) new.seen a)
anew_come (Ok a) units more old new P goes_on journal seen h = (units, goes_on, journal, subst (λ (us : List JournalUnit). P (gone_back old.state units) us a) (sym seen) h)
anew_come (Err e) units more old new P goes_on journal seen h = tt

pub anew_refused : {A E : Type 0} (B : Type 0) (r : Result A E) (units : List JournalUnit) (old new : Held) → IsBeginning units old.seen → OnErr r (B × (new ≡ knowing units old)) → OnErr r (IsBeginning new.seen old.seen × (new ≡ knowing new.seen old))
anew_refused B (Ok a) units old new goes_on is = tt
anew_refused B (Err e) units old new goes_on is =
    let seen : units ≡ new.seen = sym (ap (λ (x : Held). x.seen) is.1) in (subst (λ (us : List JournalUnit). IsBeginning us old.seen) seen goes_on, is.1 ∙ ap (λ (us : List JournalUnit). knowing us old) seen)

pub anew_cause : {A : Type 0} (B : Type 0) (r : Result A Refusal) (units : List JournalUnit) (old new : Held) → OnErr r (B × (new ≡ knowing units old)) → IfErr r (λ refusal. HasNoRoom refusal 1 (length units)) → IfErr r (λ refusal. HasNoRoom refusal 1 (length new.seen))
anew_cause B (Ok a) units old new is cause = tt
anew_cause B (Err refusal) units old new is cause = subst (λ (us : List JournalUnit). HasNoRoom refusal 1 (length us)) (sym (ap (λ (x : Held). x.seen) is.1)) cause

-- ---- what holds of the units under the lock holds of what the session has seen then

pub ended_at : (r : Result Ended Refusal) (units more : List JournalUnit) (old new : Held) → IsJournalOf units old → IfOk r (λ end. HasEnded end units more old new) → IfOk r (λ end. (us : List JournalUnit) × IsJournalOf us old × HasEnded end us new.seen old new)
ended_at (Ok end) units more old new journal h = (units, journal, subst (λ (us : List JournalUnit). HasEnded end units us old new) (sym (ended_seen end units more old new h)) h)
ended_at (Err e) units more old new journal h = tt

-- it is refused, and has seen these units
pub refused_at : {A : Type 0} (B : Type 0) (r : Result A Refusal) (units : List JournalUnit) (old new : Held) → IsJournalOf units old → OnErr r (B × (new ≡ knowing units old)) → OnErr r (IsJournalOf new.seen old × (new ≡ knowing new.seen old))
refused_at B (Ok a) units old new journal is = tt
refused_at B (Err e) units old new journal is =
    let seen : units ≡ new.seen = sym (ap (λ (s : Held). s.seen) is.1) in (subst (λ (us : List JournalUnit). IsJournalOf us old) seen journal, is.1 ∙ ap (λ (us : List JournalUnit). knowing us old) seen)

pub cause_at : {A : Type 0} (B : Type 0) (r : Result A Refusal) (s : JobSession) (units : List JournalUnit) (old new : Held) → OnErr r (B × (new ≡ knowing units old)) → IfErr r (λ refusal. IsCauseAtCommit refusal s.work units ⊎ IsCauseAtRestart refusal s units)
    → IfErr r (λ refusal. IsCauseAtCommit refusal s.work new.seen ⊎ IsCauseAtRestart refusal s new.seen)
cause_at B (Ok a) s units old new is cause = tt
cause_at B (Err e) s units old new is cause =
    subst (λ (us : List JournalUnit). IsCauseAtCommit e s.work us ⊎ IsCauseAtRestart e s us) (sym (ap (λ (x : Held). x.seen) is.1)) cause
