use Rattle.std.proofs.Common.{refl, sym, ap, ◌∙◌, subst}
use Rattle.pin_board.specs.Slips.{IsBeginning}
use Rattle.shared_engine.proofs.Writing.{session_quiet, view_back}
use Rattle.shared_engine.proofs.locked.go_back.Goals as goal

pub invariant_of-session : goal.invariant_of-session
invariant_of-session c = session_quiet _ _ _ _ _ c.args.desk.now.knows _ _ _ _ c.session.invariant c.in_ok-receipt.ensures.added c.write.ensures.goes_on c.write.ensures.pin refl c.job.ensures

pub returns-clause-session : goal.returns-clause-session
returns-clause-session c =
    view_back _ _ _ _ c.args.desk.now.knows c.session.inside.state c.session.inside.pin.knows _ _ _ c.requires.log c.in_ok-receipt.ensures.added c.write.ensures.pin c.job.ensures (sym c.took_lock.ensures ∙ c.if-not-took_lock.false) (ap (λ h. h.held) c.session.view_is)

pub returns-clause-goes_on : goal.returns-clause-goes_on
returns-clause-goes_on c = λ took. rw (← c.session.view_is) (subst (λ us. IsBeginning us c.session.inside.pin.knows.seen) c.requires.log c.write.ensures.goes_on)
