use Rattle.std.proofs.Common.{◌+◌, ◌∷◌, ◌++◌, [], nat_lt, length, refl, ap, ◌∙◌, subst}
use Rattle.journal.specs.declared.unit.Unit.TheVariants.{Lock}
use Rattle.shared_engine.specs.Receipts.{claim, receipts_in, others_in}
use Rattle.shared_engine.specs.Sessions.{held, start_in, noted_lock}
use Rattle.shared_engine.specs.Engines.{after_try}
use Rattle.shared_engine.proofs.Writing.{numbers_next, session_next, session_noted, view_next}
use Rattle.pin_board.specs.Slips.{IsBeginning}
use Rattle.shared_engine.proofs.locked.Locked.write_lock.Goals as goal

pub invariant_of-session-2 : goal.invariant_of-session-2
invariant_of-session-2 c =
    let numbers = numbers_next _ _ _ _ _ c.push_reserved.ensures.items c.reserve.ensures.items c.number.ensures in
    rw c.note_lock.ensures
    (session_noted _ _ _ (session_next _ _ _ _ _ c.args.desk.now.knows _ _ _ _ _ c.session.invariant c.requires.stands.log c.in_ok-had.ensures.added c.write.ensures.in_journal c.write.ensures.goes_on c.write.ensures.pin numbers refl c.job-2.ensures))

pub returns-clause-receipt : goal.returns-clause-receipt
returns-clause-receipt c =
    let s = ap (λ h. h.held) c.session.view_is in
    let next = view_next _ _ _ _ _ c.args.desk.now.knows c.session.inside.state c.session.inside.pin.knows _ c.requires.stands.log c.in_ok-had.ensures.added c.write.ensures.pin refl in
    let start = ap (λ h. h.start) next in
    let receipts = ap (λ h. h.receipts) next in
    let others = ap (λ h. h.others) next in
    let seen = ap (λ h. h.seen) next in
    let state = c.session.inside.state in
    let pin = c.session.inside.pin.knows in
    let here = length c.args.self.now.core.units + 1 in
    (λ i. held (c.note_lock.ensures i) (start i) (receipts i) (others i) (seen i))
    ∙ ((λ i. held (noted_lock state) (start_in pin) (receipts_in pin.mine ++ claim here (Lock (c.job-2.ensures i) (nat_lt 0 (c.level-inside.ensures i)) c.args.command.now c.in_ok-had.had) ∷ []) (others_in pin.mine) (c.args.self.now.core.units ++ Lock (c.job-2.ensures i) (nat_lt 0 (c.level-inside.ensures i)) c.args.command.now c.in_ok-had.had ∷ []))
    ∙ (λ i. after_try c.args.self.now.core.units c.args.command.now c.in_ok-had.had (s i)))

pub returns-clause-goes_on : goal.returns-clause-goes_on
returns-clause-goes_on c = rw (← c.session.view_is) (subst (λ us. IsBeginning us c.session.inside.pin.knows.seen) c.requires.stands.log c.write.ensures.goes_on)
