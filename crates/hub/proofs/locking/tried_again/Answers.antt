use Rattle.shared_engine.specs.laws.Told.{tried_again, refused_again}
use Rattle.hub.proofs.locking.tried_again.Goals as goal

pub returns-clause-had : goal.returns-clause-had
returns-clause-had c = let h = c.lock_again-done.ensures in tried_again c.args.command.now _ _ c.args.session.now.held _ h.goes_on h.had h.allowed h.receipt

pub returns-clause-refused : goal.returns-clause-refused
returns-clause-refused c = let h = c.lock_again-done.ensures in refused_again _ c.args.command.now _ _ c.args.session.now.held _ h.cause h.refused
