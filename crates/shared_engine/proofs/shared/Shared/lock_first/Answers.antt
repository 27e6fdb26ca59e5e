use Rattle.shared_engine.specs.laws.Told.{tried_first, refused_first}
use Rattle.shared_engine.proofs.shared.Shared.lock_first.Goals as goal

pub returns-clause-tried : goal.returns-clause-tried
returns-clause-tried g c = let h = c.lock-done.ensures in rw (← c.session.view_is) (tried_first c.args.command.now _ _ c.session.inside.inner.held _ h.goes_on h.had h.allowed h.receipt)

pub returns-clause-refused : goal.returns-clause-refused
returns-clause-refused g c = let h = c.lock-done.ensures in rw (← c.session.view_is) (refused_first _ c.args.command.now _ _ c.session.inside.inner.held _ h.goes_on h.cause h.refused)
