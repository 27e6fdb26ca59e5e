use Rattle.shared_engine.specs.laws.Told.{tried_first, refused_first}
use Rattle.hub.proofs.locking.tried.Goals as goal

pub returns-clause-tried : goal.returns-clause-tried
returns-clause-tried c = let h = c.lock-done.ensures in tried_first c.args.command.now _ _ c.args.session.now.held _ h.goes_on h.had h.allowed h.receipt

pub returns-clause-refused : goal.returns-clause-refused
returns-clause-refused c = let h = c.lock-done.ensures in refused_first _ c.args.command.now _ _ c.args.session.now.held _ h.goes_on h.cause h.refused
