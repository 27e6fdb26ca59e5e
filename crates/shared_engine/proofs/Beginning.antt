-- A transaction that begins.
use Rattle.std.proofs.Common.{◌≡◌, ℕ, ◌+◌, ◌<◌, Bool, List, length, take, true, false, Some, None, sym, ap, ◌∙◌, subst}
use Rattle.std.specs.Prelude.{cond, IfSome}
use Rattle.journal.specs.declared.unit.Unit.{Unit as JournalUnit}
use Rattle.journal.specs.Kept.{Claim}
use Rattle.journal.specs.History.{initial, after, IsLegal}
use Rattle.validate_commit.specs.Working.{Working, IsWorkOn, just_begun}
use Rattle.validate_commit.specs.laws.Working.{work_nothing}
use Rattle.job_core.specs.Sessions.{Session as JobSession, just_opened}
use Rattle.pin_board.specs.declared.view.DeskView.{DeskView}
use Rattle.pin_board.specs.declared.view.PinView.{PinView}
use Rattle.pin_board.specs.Views.{rebased, Met}
use Rattle.pin_board.specs.Slips.{AreInJournal, IsBeginning}
use Rattle.shared_engine.specs.Receipts.{receipts_in, others_in, IsBook}
use Rattle.shared_engine.specs.Sessions.{held, start_in, IsSession, HasBegun, IsJournalOf}
use Rattle.shared_engine.proofs.Booking.{in_journal_receipts}
use Rattle.shared_engine.proofs.Starting.{start_settled, at_settled}
use Rattle.shared_engine.proofs.Prefixes.{start_there}
use Rattle.shared_engine.proofs.Writing.{shown}

-- the seat is settled on these units, and the state begins there
pub has_begun : (base : List JournalUnit) (p r : PinView) (s t : JobSession) (start : ℕ) → r.mine ≡ p.mine → r.settled ≡ true → r.base ≡ base → r.seen ≡ base → start ≡ length base → t ≡ just_opened s.work.job start → AreInJournal base p.mine → IsBeginning base p.seen
    → HasBegun base (shown s p) (shown t r)
has_begun base p r s t start mine settled here knows long begun own goes_on =
    let state : t ≡ just_opened s.work.job (length base) = begun ∙ ap (just_opened s.work.job) long in
    let at : start_in r ≡ Some base = start_settled r settled ∙ ap Some here in
    let receipts : receipts_in r.mine ≡ receipts_in p.mine = ap receipts_in mine in
    let others : others_in r.mine ≡ others_in p.mine = ap others_in mine in record {
      is = λ i. held (state i) (at i) (receipts i) (others i) (knows i);
      goes_on = goes_on;
      receipts = in_journal_receipts base p.mine own;
    }

-- what the board shows under the lock is the session's journal
pub met_journal : (units : List JournalUnit) (desk : DeskView) (pin : PinView) (s : JobSession) → IsLegal units initial → desk.log ≡ units → Met desk pin → IsJournalOf units (shown s pin)
met_journal units desk pin s legal log met = record {
  legal = legal;
  goes_on = subst (λ (us : List JournalUnit). IsBeginning us pin.seen) log met.seen;
  start = by_settled pin.settled;
  receipts = in_journal_receipts units pin.mine (subst (λ (us : List JournalUnit). AreInJournal us pin.mine) log met.mine);
}
  where
    by_settled : (b : Bool) → IfSome (cond b (Some pin.base) None) (λ base. base ≡ take (length base) units)
    by_settled true = met.base ∙ ap (take (length pin.base)) log
    by_settled false = tt

-- the session whose transaction has just begun on these units
pub session_begun : (s t : JobSession) (pin later : PinView) (ns : List ℕ) (base : List JournalUnit) (start : ℕ) → IsSession s pin ns → later.place ≡ pin.place → later.slips ≡ pin.slips → later.mine ≡ pin.mine → later.settled ≡ true → later.base ≡ base → later.seen ≡ base → start ≡ length base
    → 0 < t.level → t.work ≡ just_begun s.work.job start → IsSession t later ns
session_begun s t pin later ns base start is place slips mine settled here knows long deep work =
    let job : t.work.job ≡ s.work.job = ap (λ (w : Working). w.job) work in record {
      place = ap (λ (n : ℕ). n + 1) place ∙ (is.place ∙ sym job);
      slip = slips ∙ is.slip;
      at = at_settled later t settled (record {
        level = deep;
        start = ap (λ (w : Working). w.start) work ∙ (long ∙ ap length (sym here));
        work = subst (λ (w : Working). IsWorkOn w (after later.base initial).map) (sym work) (work_nothing s.work.job start (after later.base initial).map);
      });
      start = start_there later settled (knows ∙ sym here);
      book = subst (λ (j : ℕ). IsBook j ns later.mine) (sym job) (subst (λ (m : List Claim). IsBook s.work.job ns m) (sym mine) is.book);
    }

-- the same where the seat was settled, and its start moves to now
pub session_rebegun : (s t : JobSession) (desk : DeskView) (pin later : PinView) (ns : List ℕ) (start : ℕ) → IsSession s pin ns → pin.settled ≡ true → later ≡ rebased desk pin → start ≡ length desk.log → 0 < t.level → t.work ≡ just_begun s.work.job start → IsSession t later ns
session_rebegun s t desk pin later ns start is settled step long deep work =
    session_begun s t pin later ns desk.log start is (ap (λ (p : PinView). p.place) step) (ap (λ (p : PinView). p.slips) step) (ap (λ (p : PinView). p.mine) step) (ap (λ (p : PinView). p.settled) step ∙ settled) (ap (λ (p : PinView). p.base) step) (ap (λ (p : PinView). p.seen) step) long deep work
