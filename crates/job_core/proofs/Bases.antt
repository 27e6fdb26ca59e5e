-- Where the base may stand, and where a checkpoint moves it.
use Rattle.std.proofs.Common.{◌≡◌, ◌≤◌, ◌<◌, ℕ, Bool, true, false, List, ◌∷◌, [], length, refl, sym, ap, subst, ◌∙◌, arith, inl, inr, Result, Ok, Err, IfOk, OnOk, OnErr}
use Rattle.std.proofs.lemmas.Bool.{ltb-true, ltb-false}
use Rattle.std.proofs.lemmas.List.{take_all}
use Rattle.std.specs.Prelude.{not, min, max, filter, nat_lt, take, Option, Some, None, IfSome, unwrap_or}
use Rattle.std.specs.Ordering.{nat_cmp}
use Rattle.std.specs.FinMap as finmap
use Rattle.collation.specs.Reference.{Reference}
use Rattle.lock_name.specs.Locks.{LockState}
use Rattle.command.specs.declared.request.Command.{Command}
use Rattle.command.specs.declared.request.Reply.{Reply}
use Rattle.globals.specs.declared.cut.Cut.TheVariants.{Start}
use Rattle.globals.specs.Cuts.{stands_before}
use Rattle.journal.specs.declared.unit.Unit.{Unit as JournalUnit}
use Rattle.journal.specs.Checkpoints.{IsBehind, IsCheckpoint}
use Rattle.journal.specs.History.{initial, after}
use Rattle.journal.specs.Story.{Transaction, Machine, nothing_done, transaction_of, told}
use Rattle.journal.specs.laws.Checkpoints.{stays_behind, moves_on, stands_behind}
use Rattle.read_ranges.specs.declared.range.ReadRange.{ReadRange}
use Rattle.stretches.specs.Empty.{AreEmpty}
use Rattle.version_store.specs.Versions.{Stored}
use Rattle.validate_commit.specs.Agreement.{Agreement}
use Rattle.job_core.specs.declared.engine.Engine.{Engine}
use Rattle.job_core.specs.Common.{Common, IsCore}
use Rattle.job_core.specs.Sessions.{Session, Sessions, shown}
use Rattle.job_core.specs.Joined.{IsJoined, IsWhole, IsHorizon, machine_shown}
use Rattle.job_core.proofs.Joined.{joined_store}
use Rattle.job_core.proofs.Cases.{shows}

pub from_start : (es : List (Reference × List ℕ)) → filter (λ e. not (stands_before Start e.0)) es ≡ es
from_start [] = refl
from_start (e ∷ es) = ap (λ (l : List (Reference × List ℕ)). e ∷ l) (from_start es)

-- ---- the base of a core

-- the stamp that is asked for, or now, is kept
pub record IsKept (n : ℕ) (store : Stored) (units : List JournalUnit) : Type 0 where
  pub from : store.cut ≤ n
  pub to : n ≤ length units

pub kept_place : (o : Option ℕ) (n : ℕ) (store : Stored) (units : List JournalUnit) → Agreement store units → IfSome o (λ stamp. (store.cut ≤ stamp) × (stamp ≤ length units)) → n ≡ unwrap_or o store.present → IsKept n store units
kept_place None n store units agreed asked is = record { from = omega (arith, is, agreed.present, agreed.cut); to = omega (arith, is, agreed.present) }
kept_place (Some stamp) n store units agreed asked is = record { from = omega (arith, is, asked.0); to = omega (arith, is, asked.1) }

-- where the stamp that is asked for, or now, is after the base, units stand behind that
pub ahead : (o : Option ℕ) (n m b : ℕ) (store : Stored) (units : List JournalUnit) → Agreement store units → IfSome o (λ stamp. stamp ≤ length units) → n ≡ unwrap_or o store.present → m ≡ length (take b units) → m < n → b < length units
ahead o n m b store units agreed asked is number less = by_place (nat_lt b (length units)) refl
  where
    within : (p : Option ℕ) → IfSome p (λ stamp. stamp ≤ length units) → unwrap_or p store.present ≤ length units
    within None h = omega (arith, agreed.present)
    within (Some stamp) h = h

    by_place : (t : Bool) → nat_lt b (length units) ≡ t → b < length units
    by_place true e = ltb-true _ _ e
    by_place false e =
        let all : length (take b units) ≡ length units = ap length (take_all b units (ltb-false _ _ e)) in
        let most : unwrap_or o store.present ≤ length units = within o asked in
        absurd (omega arith)

-- the core whose base has moved, or hasn't
pub core_moved : {E : Type 0} (result : Result ℕ E) (store : Stored) (units more : List JournalUnit) (base new n : ℕ) (table : LockState) (rs : List ReadRange) → IsCore store units base table rs → more ≡ units → n ≤ length units → OnOk result (new ≡ n) → OnErr result (new ≡ base) → IsCore store more new table rs
core_moved {E} result store units more base new n table rs is same to moved kept = record {
  agreed = subst (Agreement store) (sym same) is.agreed;
  locks = is.locks ∙ ap (λ us. (after us initial).locks) (sym same);
  within = by_result result moved kept;
  empty = subst (λ us. AreEmpty rs (after us initial).map) (sym same) is.empty;
}
  where
    by_result : (r : Result ℕ E) → OnOk r (new ≡ n) → OnErr r (new ≡ base) → new ≤ length more
    by_result (Ok m) moved kept = omega (arith, moved, to, ap length same)
    by_result (Err e) moved kept = omega (arith, kept, is.within, ap length same)

-- ---- where it may stand among the open transactions

pub behind_nothing : (b : ℕ) (m : Machine) → b ≡ 0 → m ≡ nothing_done → IsBehind b m
behind_nothing b m zero_is is = subst (IsBehind b) (sym is) (record { units = omega (arith, zero_is); starts = λ job t there. let no : None ≡ Some t = sym (finmap.get-empty nat_cmp job) ∙ there in absurd (cc) })

pub behind_after : (b new : ℕ) (m after_it : Machine) (job : ℕ) (command : Command) (reply : Reply) → new ≡ b → after_it ≡ told job command reply m → IsBehind b m → IsBehind new after_it
behind_after b new m after_it job command reply e is h = subst (λ n. IsBehind n after_it) (sym e) (subst (IsBehind b) (sym is) (stays_behind b job command reply m h))

pub behind_same : (b new : ℕ) (m after_it : Machine) → new ≡ b → after_it ≡ m → IsBehind b m → IsBehind new after_it
behind_same b new m after_it e is h = subst (λ n. IsBehind n after_it) (sym e) (subst (IsBehind b) (sym is) h)

-- ---- where a checkpoint moves it

-- an open transaction is shown by its session
shown_by : (e : Engine) (job : ℕ) (t : Transaction) → transaction_of job (machine_shown e) ≡ Some t → (s : Session) × ((finmap.get e.sessions job ≡ Some s) × (s.work.start ≡ t.start))
shown_by e job t is = by_found (finmap.get e.sessions job) refl
  where
    by_found : (o : Option Session) → finmap.get e.sessions job ≡ o → (s : Session) × ((finmap.get e.sessions job ≡ Some s) × (s.work.start ≡ t.start))
    by_found None there = let no : None ≡ Some t = sym (shows e job None there) ∙ is in absurd (cc)
    by_found (Some s) there = let both : Some (shown s) ≡ Some t = sym (shows e job (Some s) there) ∙ is in let same : shown s ≡ t = cc in (s, (there, ap (λ (u : Transaction). u.start) same))

begun_within : (e : Engine) → IsWhole e → (job : ℕ) (t : Transaction) → transaction_of job (machine_shown e) ≡ Some t → t.start ≤ length e.core.units
begun_within e whole job t is =
    let by = shown_by e job t is in
    let o = whole.opened job by.0 by.1.0 in
    let begun : by.0.work.start ≤ length e.core.units = o.begun in
    subst (λ n. n ≤ length e.core.units) by.1.1 begun

-- the horizon is kept
pub horizon_fits : (o : Option ℕ) (e : Engine) → IsWhole e → IsHorizon o e.core.store.present e.sessions → IfSome o (λ stamp. (e.core.store.cut ≤ stamp) × (stamp ≤ length e.core.units))
horizon_fits None e whole none = tt
horizon_fits (Some stamp) e whole some =
    let agreed = whole.agreed in
    let least = some.1.0 in
    let o = whole.opened least.job least.session least.there in
    let p : e.core.store.present ≡ length e.core.units = agreed.present in
    let c : e.core.store.cut ≤ length e.core.units = agreed.cut in
    let k : e.core.store.cut ≤ least.session.work.start = o.kept in
    let l : least.session.work.start ≡ some.0 = least.start in
    let m : stamp ≡ min some.0 e.core.store.present = some.1.1 in
    (omega arith, omega arith)

pub horizon_in : (o : Option ℕ) (e : Engine) → IsWhole e → IsHorizon o e.core.store.present e.sessions → IfSome o (λ stamp. stamp ≤ length e.core.units)
horizon_in None e whole none = tt
horizon_in (Some stamp) e whole some = let fits = horizon_fits (Some stamp) e whole some in fits.1

place : (o : Option ℕ) (e : Engine) → IsWhole e → IsHorizon o e.core.store.present e.sessions → IsCheckpoint (unwrap_or o (length e.core.units)) (machine_shown e)
place None e whole none = inl ((λ job. shows e job None (ap (λ ss. finmap.get ss job) none ∙ finmap.get-empty nat_cmp job)), refl)
place (Some stamp) e whole some =
    let agreed = whole.agreed in
    let least = some.1.0 in
    let o = whole.opened least.job least.session least.there in
    let p : e.core.store.present ≡ length e.core.units = agreed.present in
    let b : least.session.work.start ≤ length e.core.units = o.begun in
    let l : least.session.work.start ≡ some.0 = least.start in
    let m : stamp ≡ min some.0 e.core.store.present = some.1.1 in
    let same : stamp ≡ some.0 = omega arith in
    inr (record {
      from = λ job t there. let by = shown_by e job t there in let f : some.0 ≤ by.0.work.start = least.from job by.0 by.1.0 in let g : by.0.work.start ≡ t.start = by.1.1 in omega arith;
      job = least.job;
      transaction = shown least.session;
      there = shows e least.job (Some least.session) least.there;
      start = l ∙ sym same;
    })

module _ (o : Option ℕ) (e : Engine) (whole : IsWhole e) (horizon : IsHorizon o e.core.store.present e.sessions) (behind : IsBehind e.core.base (machine_shown e)) where
  -- the number that is answered
  pub checkpoint_at : (n : ℕ) → n ≡ max e.core.base (unwrap_or o (length e.core.units)) → IsCheckpoint n (machine_shown e)
  checkpoint_at n is =
      let at = place o e whole horizon in
      let on : e.core.base ≤ unwrap_or o (length e.core.units) = moves_on e.core.base (unwrap_or o (length e.core.units)) (machine_shown e) behind at in
      subst (λ k. IsCheckpoint k (machine_shown e)) (omega (arith, is, on)) at

  pub checkpoint_answered : {E : Type 0} (r : Result ℕ E) → IfOk r (λ n. n ≡ max e.core.base (unwrap_or o (length e.core.units))) → IfOk r (λ n. IsCheckpoint n (machine_shown e))
  checkpoint_answered (Ok n) is = checkpoint_at n is
  checkpoint_answered (Err x) is = tt

  -- moved or refused, it stands behind all open starts
  pub behind_either : {E : Type 0} (r : Result ℕ E) (core : Common) (after_it : Machine) → IfOk r (λ n. n ≡ max e.core.base (unwrap_or o (length e.core.units))) → IfOk r (λ n. core.base ≡ n) → OnErr r (core ≡ e.core) → after_it ≡ machine_shown e → IsBehind core.base after_it
  behind_either (Ok n) core after_it answered moved kept is = behind_same n core.base (machine_shown e) after_it moved is (stands_behind n (machine_shown e) (begun_within e whole) (checkpoint_at n answered))
  behind_either (Err x) core after_it answered moved kept is = behind_same e.core.base core.base (machine_shown e) after_it (ap (λ (c : Common). c.base) kept) is behind

pub base_kept : {E : Type 0} (r : Result ℕ E) (old new : Common) → OnErr r (new ≡ old) → OnErr r (new.base ≡ old.base)
base_kept (Ok n) old new is = tt
base_kept (Err x) old new is = ap (λ (c : Common). c.base) is

-- sessions stand together with a core that has another base
pub joined_moved : (core new : Common) (ss : Sessions) → IsJoined core ss → new.units ≡ core.units → new.store ≡ core.store → IsJoined new ss
joined_moved core new ss is same store =
    joined_store core new ss is same
    (subst (λ s. Agreement s new.units) (sym store) (subst (Agreement core.store) (sym same) is.agreed))
    (λ job s there. let o = is.opened job s there in subst (λ (t : Stored). t.cut ≤ s.work.start) (sym store) o.kept)
