use Rattle.shared_engine.proofs.Starting.{start_long, start_open}
use Rattle.shared_engine.proofs.inner.InnerSession.start.Goals as goal

pub returns-clause-base : goal.returns-clause-base
returns-clause-base c = rw (← c.self.view_is) (start_long _ _ _ c.start.ensures c.self.invariant.at)

pub returns-clause-open : goal.returns-clause-open
returns-clause-open c = rw (← c.self.view_is) (λ deep. start_open _ c.self.inside.state c.self.invariant.at deep)
