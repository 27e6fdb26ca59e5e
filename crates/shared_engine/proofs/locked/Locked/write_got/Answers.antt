use Rattle.std.proofs.Common.{◌≡◌, refl, ap, ◌∙◌, subst}
use Rattle.std.specs.Prelude.{None}
use Rattle.command.specs.declared.access.DataCommand.TheVariants.{Look}
use Rattle.command.specs.declared.access.Look.TheVariants.{Get}
use Rattle.command.specs.declared.access.Answer.TheVariants.{Value}
use Rattle.journal.specs.declared.unit.Unit.TheVariants.{Lone}
use Rattle.journal.specs.History.{initial, after}
use Rattle.job_core.specs.Lent.{value_at}
use Rattle.shared_engine.specs.Sessions.{and_receipt}
use Rattle.shared_engine.proofs.Writing.{numbers_next, session_next, view_next}
use Rattle.pin_board.specs.Slips.{IsBeginning}
use Rattle.shared_engine.proofs.locked.Locked.write_got.Goals as goal

pub invariant_of-session-2 : goal.invariant_of-session-2
invariant_of-session-2 c =
    let numbers = numbers_next _ _ _ _ _ c.push_reserved.ensures.items c.reserve.ensures.items c.number-2.ensures in
    session_next _ _ _ _ _ c.args.desk.now.knows _ _ _ _ _ c.session.invariant c.requires.stands.log c.in_ok-size.ensures.added c.write.ensures.in_journal c.write.ensures.goes_on c.write.ensures.pin numbers refl c.job.ensures

pub returns-clause-receipt : goal.returns-clause-receipt
returns-clause-receipt c =
    let s = ap (λ h. h.held) c.session.view_is in
    let job : c.job.result ≡ c.args.session.now.held.state.work.job = c.job.ensures ∙ ap (λ h. h.state.work.job) s in
    view_next _ _ _ _ _ c.args.desk.now.knows c.session.inside.state c.session.inside.pin.knows _ c.requires.stands.log c.in_ok-size.ensures.added c.write.ensures.pin refl ∙ (λ i. and_receipt c.args.self.now.core.units (Lone (job i) (Look (Get c.args.key.now None)) (Value (value_at c.args.key.now (after c.args.self.now.core.units initial).map))) (s i))

pub returns-clause-goes_on : goal.returns-clause-goes_on
returns-clause-goes_on c = rw (← c.session.view_is) (subst (λ us. IsBeginning us c.session.inside.pin.knows.seen) c.requires.stands.log c.write.ensures.goes_on)
