use Rattle.job_core.proofs.Joined.{joined_nothing}
use Rattle.job_core.proofs.Machines.{machine_idle}
use Rattle.job_core.proofs.engine.Engine.adopt.Goals as goal

pub returns-in-Ok-clause-whole : goal.returns-in-Ok-clause-whole
returns-in-Ok-clause-whole c = joined_nothing c.in-Ok.core c.new.result c.in-Ok.ensures.adopted.agreed c.new.ensures

pub returns-in-Ok-clause-machine : goal.returns-in-Ok-clause-machine
returns-in-Ok-clause-machine c = machine_idle c.in-Ok.core.units c.new.result c.new.ensures
