-- The start of a session's transaction, and what the board shows of it under the lock.
use Rattle.std.proofs.Common.{◌≡◌, ℕ, ◌<◌, Bool, true, false, List, length, Some, None, refl, sym, ap, ◌∙◌, subst, arith}
use Rattle.std.specs.Prelude.{Option, cond, take, nat_lt, if◌then◌else◌, Result, Ok, Err, IfSome, IsSome}
use Rattle.refusal.specs.declared.Refusal.{Refusal}
use Rattle.command.specs.declared.access.DataCommand.{DataCommand}
use Rattle.command.specs.declared.access.Answer.{Answer}
use Rattle.journal.specs.declared.unit.Unit.{Unit as JournalUnit}
use Rattle.journal.specs.History.{initial, after}
use Rattle.validate_commit.specs.Working.{IsWorkOn}
use Rattle.validate_commit.specs.laws.Working.{work_nothing}
use Rattle.job_core.specs.Common.{Common}
use Rattle.job_core.specs.Sessions.{Session as JobSession, idle, just_opened, after_lock, anew, IsOpenOn, began_with, IsAnsweredOrRefused}
use Rattle.pin_board.specs.declared.view.DeskView.{DeskView}
use Rattle.pin_board.specs.declared.view.PinView.{PinView}
use Rattle.pin_board.specs.Views.{Met}
use Rattle.pin_board.specs.Named.{DeskAt, FreeAt}
use Rattle.shared_engine.specs.Sessions.{start_in, IsAt, IsBegun, noted_lock}
use Rattle.shared_engine.specs.Engines.{IsLocked}

-- a seat is settled, or no transaction is open
pub settled_open : (p : PinView) (s : JobSession) → IsAt (start_in p) s → 0 < s.level → p.settled ≡ true
settled_open p s at deep = by_settled p.settled refl at
  where
    by_settled : (b : Bool) → p.settled ≡ b → IsAt (cond b (Some p.base) None) s → p.settled ≡ true
    by_settled true e here = e
    by_settled false e here = let level : s.level ≡ 0 = ap (λ (t : JobSession). t.level) here in absurd (omega (arith, level, deep))

pub idle_free : (p : PinView) (s : JobSession) → IsAt (start_in p) s → s.level ≡ 0 → p.settled ≡ false
idle_free p s at none = by_settled p.settled refl at
  where
    by_settled : (b : Bool) → p.settled ≡ b → IsAt (cond b (Some p.base) None) s → p.settled ≡ false
    by_settled true e here = absurd (omega (arith, here.level, none))
    by_settled false e here = e

pub start_settled : (p : PinView) → p.settled ≡ true → start_in p ≡ Some p.base
start_settled p is = ap (λ (b : Bool). cond b (Some p.base) None) is

pub start_free : (p : PinView) → p.settled ≡ false → start_in p ≡ None
start_free p is = ap (λ (b : Bool). cond b (Some p.base) None) is

-- where a transaction is open it has a start, whose units are as many as its stamp
pub start_long : (start : Option (List JournalUnit)) (s : JobSession) (n : ℕ) → n ≡ s.work.start → IsAt start s → IfSome start (λ base. n ≡ length base)
start_long None s n is at = tt
start_long (Some base) s n is at = is ∙ at.start

pub start_open : (start : Option (List JournalUnit)) (s : JobSession) → IsAt start s → 0 < s.level → IsSome start
start_open None s at deep = let level : s.level ≡ 0 = ap (λ (t : JobSession). t.level) at in absurd (omega (arith, level, deep))
start_open (Some base) s at deep = refl

-- the transaction of a settled seat
pub begun_settled : (p : PinView) (s : JobSession) → p.settled ≡ true → IsAt (start_in p) s → IsBegun p.base s
begun_settled p s is at = subst (λ (o : Option (List JournalUnit)). IsAt o s) (start_settled p is) at

pub at_settled : (p : PinView) (s : JobSession) → p.settled ≡ true → IsBegun p.base s → IsAt (start_in p) s
at_settled p s is at = subst (λ (o : Option (List JournalUnit)). IsAt o s) (sym (start_settled p is)) at

-- a transaction that has just begun
pub begun_opened : (p : PinView) (job start : ℕ) → p.settled ≡ true → start ≡ length p.base → IsAt (start_in p) (just_opened job start)
begun_opened p job start is long = at_settled p (just_opened job start) is (record { level = omega arith; start = long; work = work_nothing job start (after p.base initial).map })

pub begun_anew_at : (p : PinView) (s : JobSession) (start : ℕ) → p.settled ≡ true → start ≡ length p.base → IsAt (start_in p) (anew start s)
begun_anew_at p s start is long = at_settled p (anew start s) is (record { level = omega arith; start = long; work = work_nothing s.work.job start (after p.base initial).map })

-- a LOCK changes nothing of a transaction but that it took one
pub at_noted : (start : Option (List JournalUnit)) (s : JobSession) → IsAt start s → IsAt start (noted_lock s)
at_noted None s at = subst (λ (x : JobSession). noted_lock x ≡ idle (noted_lock x).work.job) (sym at) refl
at_noted (Some base) s at = by_level (nat_lt 0 s.level)
  where
    by_level : (b : Bool) → IsBegun base (if b then after_lock s else s)
    by_level true = record { level = at.level; start = at.start; work = at.work }
    by_level false = at

pub noted_work : (s : JobSession) → (noted_lock s).work ≡ s.work
noted_work s = by_level (nat_lt 0 s.level)
  where
    by_level : (b : Bool) → (if b then after_lock s else s).work ≡ s.work
    by_level true = refl
    by_level false = refl

-- ---- under the lock

-- the base of a seat is what the units leave at its start
pub met_base : (common : Common) (desk : DeskView) (pin : PinView) → desk.log ≡ common.units → Met desk pin → pin.base ≡ take (length pin.base) common.units
met_base common desk pin log met = met.base ∙ ap (take (length pin.base)) log

pub met_open : (common : Common) (desk : DeskAt) (pin : PinView) (seats : List (Option FreeAt)) (horizon opened : ℕ) (s : JobSession) → IsLocked common desk seats horizon opened → Met desk.knows pin → IsAt (start_in pin) s → 0 < s.level → IsOpenOn common s
met_open common desk pin seats horizon opened s is met at deep =
    let settled = settled_open pin s at deep in
    let begun = begun_settled pin s settled at in
    let base : pin.base ≡ take s.work.start common.units = met_base common desk.knows pin is.log met ∙ ap (λ (n : ℕ). take n common.units) (sym begun.start) in record {
      whose = refl;
      kept = omega (arith, is.cut, met.below settled, begun.start);
      begun = omega (arith, met.before, begun.start, ap length is.log);
      work = subst (λ (us : List JournalUnit). IsWorkOn s.work (after us initial).map) base begun.work;
    }

-- what is answered on the database of the start's units
pub met_answered : (common : Common) (desk : DeskView) (pin : PinView) (command : DataCommand) (result : Result Answer Refusal) (old new : JobSession) → desk.log ≡ common.units → Met desk pin → IsAt (start_in pin) old → 0 < old.level
    → IsAnsweredOrRefused command result (began_with common.units old) old new → IfSome (start_in pin) (λ base. IsAnsweredOrRefused command result (after base initial).map old new)
met_answered common desk pin command result old new log met at deep h =
    let settled = settled_open pin old at deep in
    let begun = begun_settled pin old settled at in
    let base : take old.work.start common.units ≡ pin.base = ap (λ (n : ℕ). take n common.units) begun.start ∙ sym (met_base common desk pin log met) in
    subst (λ (o : Option (List JournalUnit)). IfSome o (λ b. IsAnsweredOrRefused command result (after b initial).map old new)) (sym (start_settled pin settled))
    (subst (λ (us : List JournalUnit). IsAnsweredOrRefused command result (after us initial).map old new) base h)

-- the session after what it was answered
pub at_answered : (start : Option (List JournalUnit)) (command : DataCommand) (result : Result Answer Refusal) (old new : JobSession) → IsAt start old → 0 < old.level → IfSome start (λ base. IsAnsweredOrRefused command result (after base initial).map old new) → IsAt start new
at_answered None command result old new at deep h = let level : old.level ≡ 0 = ap (λ (t : JobSession). t.level) at in absurd (omega (arith, level, deep))
at_answered (Some base) command (Ok answer) old new at deep h = record { level = omega (arith, h.level, at.level); start = h.start ∙ at.start; work = h.work }
at_answered (Some base) command (Err refusal) old new at deep h = subst (λ (t : JobSession). IsBegun base t) (sym h.same) at
