use Rattle.shared_engine.specs.Sessions.{knowing}
use Rattle.shared_engine.specs.Blocks.{AreDone}
use Rattle.shared_engine.specs.Holds.{accesses}
use Rattle.shared_engine.proofs.Serving.{served_each, done_at}
use Rattle.shared_engine.proofs.shared.Shared.hold_under.Goals as goal

pub returns-clause-done : goal.returns-clause-done
returns-clause-done g c =
    let old = c.session.inside.inner.held in
    let new = c.hold_lone.new.session.held in
    let h = c.hold_lone.ensures in
    rw (← c.session.view_is) (done_at _ _ old new (λ units more. AreDone (accesses c.args.hold.now.commands) c.hold_lone.new.hold.served units more (knowing units old) new) h.journal h.seen h.done)

pub returns-clause-each : goal.returns-clause-each
returns-clause-each g c = served_each c.args.hold.now.commands c.hold_lone.new.hold.served _ _ _ _ c.hold_lone.ensures.done
