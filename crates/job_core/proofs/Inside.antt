-- A SET and a $GET of which key and value are lent, of a job in its transaction.
use Rattle.std.proofs.Common.{◌≡◌, ◌<◌, ◌≤◌, ℕ, List, [], ◌∷◌, ◌++◌, length, refl, sym, ap, subst, ◌∙◌, arith, inl, inr}
use Rattle.std.specs.Prelude.{cond, true, Option, Some, None, IsSome, Result, Ok, Err, OnOk, OnErr, IfErr}
use Rattle.std.specs.Ordering.{nat_cmp, eq_by_cmp}
use Rattle.std.specs.Cmp.{nat_cmp_total, eq_by_cmp_equiv}
use Rattle.std.specs.FinMap as finmap
use Rattle.refusal.specs.declared.Refusal.{Refusal}
use Rattle.refusal.specs.declared.Refusal.TheVariants.{TransactionTooLong}
use Rattle.collation.specs.Reference.{Reference}
use Rattle.collation.specs.Database.{Database}
use Rattle.command.specs.declared.access.DataCommand.{DataCommand}
use Rattle.command.specs.declared.access.DataCommand.TheVariants.{Set, Look}
use Rattle.command.specs.declared.access.Look.TheVariants.{Get}
use Rattle.command.specs.declared.access.Answer.TheVariants.{Done, Value}
use Rattle.command.specs.declared.request.Command.TheVariants.{Access}
use Rattle.command.specs.Data.{data_refusal}
use Rattle.globals.specs.Answering.{early_refusal}
use Rattle.journal.specs.declared.unit.Exchange.{Exchange}
use Rattle.journal.specs.declared.unit.Unit.{Unit as JournalUnit}
use Rattle.journal.specs.History.{initial, after}
use Rattle.journal.specs.Story.{Transaction, transaction_of}
use Rattle.validate_commit.specs.Working.{Working, IsWorkOn, IsKept, IsCauseAlone, IsCauseInside, HasLastGot, value_seen}
use Rattle.job_core.specs.declared.engine.Engine.{Engine}
use Rattle.job_core.specs.Sessions.{Session, Sessions, machine_of, shown, IsAnsweredOrRefused, IsRefused, HasAnsweredAt}
use Rattle.job_core.specs.Joined.{IsWhole, IsStep}
use Rattle.job_core.specs.Lent.{done_reply, done_answer, got_reply, got_answer, seen_in, value_at, value_in, value_of, HasGot, HasGotIn, HasJustGot}
use Rattle.job_core.proofs.DataCommands.{answered_inside, refused_inside}
use Rattle.job_core.proofs.Machines.{transaction_is}

-- ---- in a session

alone : (refusal : Refusal) (command : DataCommand) (w : Working) (m : Database) → IsCauseAlone refusal w → IsCauseInside refusal command w m
alone refusal command w m (inl long) = inl long
alone refusal command w m (inr memory) = inr (memory.1, inr memory.0)

too_long : (refusal : Refusal) (w : Working) → IsCauseAlone refusal w → 65535 ≤ length w.exchanges → refusal ≡ TransactionTooLong
too_long refusal w (inl long) many = long.0
too_long refusal w (inr memory) many = absurd (let few = memory.1 in omega (arith, few, many))

refused_alone : (refusal : Refusal) (command : DataCommand) (m : Database) (old new : Session) → new ≡ old → IsCauseAlone refusal old.work → early_refusal command ≡ None → IsRefused command refusal m old new
refused_alone refusal command m old new same cause never = record {
  same = same;
  cause = alone refusal command old.work m cause;
  long = too_long refusal old.work cause;
  early = λ rule few is. absurd (let both : None ≡ Some rule = sym never ∙ is in cc);
}

pub set_answered : (result : Result (Unit {0}) Refusal) (key : Reference) (value : List ℕ) (m : Database) (old : Session) (w : Working) → IsWorkOn old.work m → OnOk result (IsKept (Set key value) old.work w) → OnErr result (w ≡ old.work) → IfErr result (λ refusal. IsCauseAlone refusal old.work)
    → IsAnsweredOrRefused (Set key value) (done_answer result) m old (record old { work = w })
set_answered (Ok done) key value m old w is kept same cause = record {
  right = refl;
  accepted = refl;
  short = kept.short;
  exchanges = kept.exchanges;
  work = kept.work m is;
  job = kept.job;
  start = kept.start;
  level = refl;
  restarts = refl;
  took_lock = refl;
}
set_answered (Err refusal) key value m old w is kept same cause = refused_alone refusal (Set key value) m old (record old { work = w }) (λ i. record old { work = same i }) cause refl

pub get_answered : (result : Result ℕ Refusal) (key : Reference) (m : Database) (old : Session) (w : Working) → OnOk result (w.exchanges ≡ old.work.exchanges ++ record { command = Look (Get key None); answer = Value (value_seen key old.work m) } ∷ [])
    → OnOk result (length old.work.exchanges < 65535) → OnOk result (IsWorkOn w m) → w.job ≡ old.work.job → w.start ≡ old.work.start → OnErr result (w ≡ old.work) → IfErr result (λ refusal. IsCauseAlone refusal old.work)
    → IsAnsweredOrRefused (Look (Get key None)) (got_answer (value_seen key old.work m) result) m old (record old { work = w })
get_answered (Ok size) key m old w more short work job start same cause = record {
  right = refl;
  accepted = refl;
  short = short;
  exchanges = more;
  work = work;
  job = job;
  start = start;
  level = refl;
  restarts = refl;
  took_lock = refl;
}
get_answered (Err refusal) key m old w more short work job start same cause = refused_alone refusal (Look (Get key None)) m old (record old { work = w }) (λ i. record old { work = same i }) cause refl

-- ---- among all

pub set_stepped : (result : Result (Unit {0}) Refusal) (job : ℕ) (key : Reference) (value : List ℕ) (old : Engine) → IsWhole old → (ss : Sessions) → IsSome (finmap.get old.sessions job)
    → HasAnsweredAt (Set key value) (done_answer result) old.core.units job old.sessions ss (finmap.get old.sessions job) → IsStep job (Access (Set key value)) (done_reply result) old (record old { sessions = ss })
set_stepped (Ok done) job key value old whole ss some is = answered_inside job (Set key value) old whole Done ss _ refl some is
set_stepped (Err refusal) job key value old whole ss some is = refused_inside job (Set key value) old whole refusal ss _ refl some is

-- what the machine shows that the job sees is what its session sees, and outside what all see
pub value_inside : (us : List JournalUnit) (ss : Sessions) (job : ℕ) (key : Reference) (o : Option Session) → finmap.get ss job ≡ o → IsSome o → value_in key us o ≡ value_of job key (machine_of us ss)
value_inside us ss job key None is some = absurd (cc)
value_inside us ss job key (Some s) is some = ap (λ (t : Option Transaction). value_at key (seen_in t us)) (sym (transaction_is us ss job (Some s) is))

pub value_outside : (us : List JournalUnit) (ss : Sessions) (job : ℕ) (key : Reference) → finmap.get ss job ≡ None → value_at key (after us initial).map ≡ value_of job key (machine_of us ss)
value_outside us ss job key none = ap (λ (t : Option Transaction). value_at key (seen_in t us)) (sym (transaction_is us ss job None none))

pub get_stepped : (result : Result ℕ Refusal) (job : ℕ) (key : Reference) (value : List ℕ) (old : Engine) → IsWhole old → (ss : Sessions) → IsSome (finmap.get old.sessions job)
    → HasAnsweredAt (Look (Get key None)) (got_answer value result) old.core.units job old.sessions ss (finmap.get old.sessions job) → IsStep job (Access (Look (Get key None))) (got_reply value result) old (record old { sessions = ss })
get_stepped (Ok size) job key value old whole ss some is = answered_inside job (Look (Get key None)) old whole (Value value) ss _ refl some is
get_stepped (Err refusal) job key value old whole ss some is = refused_inside job (Look (Get key None)) old whole refusal ss _ refl some is

-- ---- where the value lies

pub got_inside : (us : List JournalUnit) (ss : Sessions) (job base : ℕ) (value : List ℕ) (s : Session) → finmap.get ss job ≡ Some s → HasGot job value base (machine_of us ss) → HasLastGot value s.work.exchanges
got_inside us ss job base value s is got = subst (λ (t : Option Transaction). HasGotIn value base t us) (transaction_is us ss job (Some s) is) got

pub got_outside : (us : List JournalUnit) (ss : Sessions) (job base : ℕ) (value : List ℕ) → finmap.get ss job ≡ None → HasGot job value base (machine_of us ss) → HasJustGot value base us
got_outside us ss job base value none got = subst (λ (t : Option Transaction). HasGotIn value base t us) (transaction_is us ss job None none) got

pub just_got_outside : (us : List JournalUnit) (ss : Sessions) (job base : ℕ) (value : List ℕ) → finmap.get ss job ≡ None → HasJustGot value base us → HasGot job value base (machine_of us ss)
just_got_outside us ss job base value none got = subst (λ (t : Option Transaction). HasGotIn value base t us) (sym (transaction_is us ss job None none)) got

pub got_kept : (result : Result ℕ Refusal) (us : List JournalUnit) (job base : ℕ) (key : Reference) (value : List ℕ) (old new : Sessions) → HasAnsweredAt (Look (Get key None)) (got_answer value result) us job old new (finmap.get old job) → OnOk result (HasGot job value base (machine_of us new))
got_kept (Err refusal) us job base key value old new is = tt
got_kept (Ok size) us job base key value old new is = by_found (finmap.get old job) is
  where
    itself : eq_by_cmp nat_cmp job job ≡ true
    itself = let laws = eq_by_cmp_equiv nat_cmp_total in laws.refl job

    by_found : (o : Option Session) → HasAnsweredAt (Look (Get key None)) (Ok (Value value)) us job old new o → HasGot job value base (machine_of us new)
    by_found None is = absurd is
    by_found (Some s) is =
        let done = is.answered in
        let there : finmap.get new job ≡ Some is.session = ap (λ (m : Sessions). finmap.get m job) is.put ∙ finmap.get-insert nat_cmp_total old job is.session job ∙ ap (λ b. cond b (Some is.session) (finmap.get old job)) itself in
        subst (λ (t : Option Transaction). HasGotIn value base t us) (sym (transaction_is us new job (Some is.session) there)) (record { before = s.work.exchanges; key = key; last = done.exchanges })
