use Rattle.shared_engine.specs.laws.Told.{lone_done}
use Rattle.hub.proofs.inside.lone.Goals as goal

pub returns-clause-done : goal.returns-clause-done
returns-clause-done c = let h = c.lone-done.ensures in (_, h.goes_on, lone_done _ _ _ _ _ _ h.answer h.accepted h.receipt h.refused h.early h.cause)
