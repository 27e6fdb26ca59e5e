use Rattle.std.proofs.Common.{◌≡◌, ◌++◌, ◌∷◌, [], refl, sym, ap, ◌∙◌}
use Rattle.validate_commit.specs.Verdicts.{has_been_overtaken}
use Rattle.shared_engine.specs.Receipts.{receipts_in, others_in}
use Rattle.shared_engine.specs.Sessions.{held, start_in, and_receipt, ended}
use Rattle.shared_engine.specs.Engines.{whole_of}
use Rattle.shared_engine.proofs.Beginning.{met_journal}
use Rattle.shared_engine.proofs.Booking.{received, others_same}
use Rattle.shared_engine.proofs.Keeping.{committed_added, committed_stands}
use Rattle.shared_engine.proofs.Writing.{numbers_next, session_next, session_met, session_left, seen_next}
use Rattle.shared_engine.proofs.locked.Locked.tcommit.Goals as goal

pub invariant_of-session-in-Committed : goal.invariant_of-session-in-Committed
invariant_of-session-in-Committed c =
    let h = committed_added _ _ _ _ _ _ c.in-Committed.is c.in_ok-receipt.ensures.verdict in
    let numbers = numbers_next _ _ _ _ _ c.push_reserved.ensures.items c.reserve.ensures.items c.number-in-Committed.ensures in
    let log = ap (λ d. d.knows.log) c.meet.ensures.desk ∙ c.requires.stands.log in
    let met = session_met _ c.args.desk.now.knows _ _ _ c.session.invariant c.meet.ensures.met.seen c.meet.ensures.pin in
    let next = session_next _ _ _ _ _ c.meet.new.desk.knows _ _ _ _ _ met log h c.write.ensures.in_journal c.write.ensures.goes_on c.write.ensures.pin numbers refl refl in
    rw c.end.ensures (session_left _ _ _ _ next c.leave.ensures.left)

pub returns-in-Committed-clause-ended : goal.returns-in-Committed-clause-ended
returns-in-Committed-clause-ended c =
    let stands = committed_stands _ _ _ _ _ _ c.in-Committed.is c.in_ok-receipt.ensures.verdict in
    let h = committed_added _ _ _ _ _ _ c.in-Committed.is c.in_ok-receipt.ensures.verdict in
    let s = ap (λ h. h.held) c.session.view_is in
    let mine : c.write.new.pin.knows.mine ≡ c.session.inside.pin.knows.mine ++ c.in-Committed.receipt ∷ [] = ap (λ p. p.mine) c.write.ensures.pin ∙ ap (λ p. p.mine ++ c.in-Committed.receipt ∷ []) c.meet.ensures.pin in
    let start = ap start_in c.leave.ensures.left in
    let receipts = ap (λ p. receipts_in p.mine) c.leave.ensures.left ∙ received _ _ _ _ _ _ _ h mine refl in
    let others = ap (λ p. others_in p.mine) c.leave.ensures.left ∙ others_same _ _ _ _ _ _ _ h mine refl in
    let seen = ap (λ p. p.seen) c.leave.ensures.left ∙ seen_next _ _ _ _ _ c.meet.new.desk.knows c.meet.new.pin.knows _ (ap (λ d. d.knows.log) c.meet.ensures.desk ∙ c.requires.stands.log) h c.write.ensures.pin in (
      sym (λ i. has_been_overtaken (s i).state.work c.args.self.now.core.units) ∙ stands,
      (
        h.units ∙ (λ i. c.args.self.now.core.units ++ whole_of (s i).state ∷ []),
        (λ i. held (c.end.ensures i) (start i) (receipts i) (others i) (seen i)) ∙ (λ i. ended (and_receipt c.args.self.now.core.units (whole_of (s i).state) (s i))),
      ),
    )

pub returns-in-Committed-clause-journal : goal.returns-in-Committed-clause-journal
returns-in-Committed-clause-journal c = rw (← c.session.view_is) (met_journal _ _ _ _ c.journal.ensures.legal c.requires.stands.log c.meet.ensures.met)

pub returns-in_ok-restarts-in-Restart-clause-journal : goal.returns-in_ok-restarts-in-Restart-clause-journal
returns-in_ok-restarts-in-Restart-clause-journal c = rw (← c.session.view_is) (met_journal _ _ _ _ c.journal.ensures.legal c.requires.stands.log c.meet.ensures.met)

pub returns-in_err-reserve-clause-journal : goal.returns-in_err-reserve-clause-journal
returns-in_err-reserve-clause-journal c = rw (← c.session.view_is) (met_journal _ _ _ _ c.journal.ensures.legal c.requires.stands.log c.meet.ensures.met)

pub returns-in_err-receipt-clause-journal : goal.returns-in_err-receipt-clause-journal
returns-in_err-receipt-clause-journal c = rw (← c.session.view_is) (met_journal _ _ _ _ c.journal.ensures.legal c.requires.stands.log c.meet.ensures.met)

pub returns-in_err-restarts-in-Restart-clause-journal : goal.returns-in_err-restarts-in-Restart-clause-journal
returns-in_err-restarts-in-Restart-clause-journal c = rw (← c.session.view_is) (met_journal _ _ _ _ c.journal.ensures.legal c.requires.stands.log c.meet.ensures.met)
