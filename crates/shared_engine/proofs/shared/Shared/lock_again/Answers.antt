use Rattle.shared_engine.specs.laws.Told.{tried_again, refused_again}
use Rattle.shared_engine.proofs.shared.Shared.lock_again.Goals as goal

pub returns-clause-had : goal.returns-clause-had
returns-clause-had g c = let h = c.lock_again-done.ensures in rw (← c.session.view_is) (tried_again c.args.command.now _ _ c.session.inside.inner.held _ h.goes_on h.had h.allowed h.receipt)

pub returns-clause-refused : goal.returns-clause-refused
returns-clause-refused g c = let h = c.lock_again-done.ensures in rw (← c.session.view_is) (refused_again _ c.args.command.now _ _ c.session.inside.inner.held _ h.cause h.refused)
