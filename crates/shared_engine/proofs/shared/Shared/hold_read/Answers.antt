use Rattle.std.proofs.Common.{sym, subst}
use Rattle.shared_engine.specs.Blocks.{AreDone}
use Rattle.shared_engine.specs.Holds.{accesses}
use Rattle.shared_engine.specs.Sessions.{Held, knowing, IsJournalOf}
use Rattle.shared_engine.proofs.Serving.{served_each}
use Rattle.shared_engine.proofs.shared.Shared.hold_read.Goals as goal

pub returns-clause-done : goal.returns-clause-done
returns-clause-done g c =
    let new = c.hold_read.new.session.held in
    let commands = accesses c.args.hold.now.commands in
    let served = c.hold_read.new.hold.served in
    rw (← c.session.view_is)
    (subst (λ us. AreDone commands served us us (knowing us c.session.inside.inner.held) new) (sym c.hold_read.ensures.seen)
    (subst (λ (h : Held). AreDone commands served c.deref-under.result.now.locked.core.units c.deref-under.result.now.locked.core.units h new) c.meet.ensures.same c.hold_read.ensures.done))

pub returns-clause-journal : goal.returns-clause-journal
returns-clause-journal g c = rw (← c.session.view_is) (subst (λ us. IsJournalOf us c.session.inside.inner.held) (sym c.hold_read.ensures.seen) c.meet.ensures.journal)

pub returns-clause-each : goal.returns-clause-each
returns-clause-each g c = served_each c.args.hold.now.commands c.hold_read.new.hold.served _ _ _ _ c.hold_read.ensures.done
