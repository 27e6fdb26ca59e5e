use Rattle.job_core.proofs.Spares.{spare_less}
use Rattle.job_core.proofs.sessions.begun.Goals as goal

pub returns-in-Some-clause-spare : goal.returns-in-Some-clause-spare
returns-in-Some-clause-spare c = spare_less _ _ _ _ _ c.pop.ensures.items c.pop.ensures.capacity
