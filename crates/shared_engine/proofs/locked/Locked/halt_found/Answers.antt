use Rattle.std.proofs.Common.{◌≡◌, ◌++◌, ◌∷◌, [], refl, sym, ap, ◌∙◌, subst}
use Rattle.shared_engine.specs.Receipts.{IsBook, seen_in}
use Rattle.shared_engine.proofs.Booking.{booked_quiet}
use Rattle.shared_engine.proofs.Writing.{view_halted, seen_next, number_of_end}
use Rattle.shared_engine.proofs.locked.Locked.halt_found.Goals as goal

pub invariant_of-result : goal.invariant_of-result
invariant_of-result c =
    let mine : c.take_slip-slip.result.knows.mine ≡ c.session.inside.pin.knows.mine ++ c.in-Ok.receipt ∷ [] = ap (λ w. w.mine) c.take_slip-slip.ensures.slip ∙ (ap (λ p. p.mine) c.leave.ensures.left ∙ ap (λ p. p.mine) c.write.ensures.pin) in
    let last = ap (λ w. seen_in w.known) c.take_slip-slip.ensures.slip ∙ (ap (λ p. p.seen) c.leave.ensures.left ∙ seen_next _ _ _ _ _ c.args.desk.now.knows c.session.inside.pin.knows _ c.requires.stands.log c.in-Ok.ensures.added c.write.ensures.pin) in
    record {
      book = booked_quiet _ _ _ _ _ _ _ _ _ (subst (λ j. IsBook j c.session.inside.numbers.items c.session.inside.pin.knows.mine) (sym c.job-job.ensures) c.session.invariant.book) c.in-Ok.ensures.added mine refl refl;
      ended = number_of_end _ _ _ _ _ _ _ c.in-Ok.ensures.added c.number.ensures last;
    }

pub returns-in-Ok-clause-pass : goal.returns-in-Ok-clause-pass
returns-in-Ok-clause-pass c =
    let mine : c.take_slip-slip.result.knows.mine ≡ c.session.inside.pin.knows.mine ++ c.in-Ok.receipt ∷ [] = ap (λ w. w.mine) c.take_slip-slip.ensures.slip ∙ (ap (λ p. p.mine) c.leave.ensures.left ∙ ap (λ p. p.mine) c.write.ensures.pin) in
    let last = ap (λ w. seen_in w.known) c.take_slip-slip.ensures.slip ∙ (ap (λ p. p.seen) c.leave.ensures.left ∙ seen_next _ _ _ _ _ c.args.desk.now.knows c.session.inside.pin.knows _ c.requires.stands.log c.in-Ok.ensures.added c.write.ensures.pin) in
    view_halted _ _ _ _ c.session.inside.state _ _ _ _ _ _ _ c.in-Ok.ensures.added mine last c.job-job.ensures (ap (λ h. h.held) c.session.view_is)
