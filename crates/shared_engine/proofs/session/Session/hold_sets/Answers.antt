use Rattle.shared_engine.proofs.Serving.{served_each}
use Rattle.shared_engine.proofs.session.Session.hold_sets.Goals as goal

pub returns-clause-done : goal.returns-clause-done
returns-clause-done g c = rw (← c.self.view_is) c.hold_sets.ensures.done

pub returns-clause-each : goal.returns-clause-each
returns-clause-each g c = served_each c.args.hold.now.commands c.hold_sets.new.hold.served _ _ _ _ c.hold_sets.ensures.done
