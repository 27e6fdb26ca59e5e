use Rattle.shared_engine.specs.laws.Told.{anew_done, anew_journal}
use Rattle.shared_engine.proofs.shared.Shared.trestart.Goals as goal

pub returns-clause-done : goal.returns-clause-done
returns-clause-done g c = let h = c.trestart-done.ensures in rw (← c.session.view_is) (anew_done _ _ _ _ c.session.inside.inner.held _ h.goes_on h.units h.session h.refused h.cause)

pub returns-clause-journal : goal.returns-clause-journal
returns-clause-journal g c = let h = c.trestart-done.ensures in rw (← c.session.view_is) (anew_journal _ _ c.session.inside.inner.held _ h.session h.journal)
