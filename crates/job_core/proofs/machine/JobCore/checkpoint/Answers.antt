use Rattle.job_core.proofs.AtWork.{kept_same}
use Rattle.job_core.proofs.machine.JobCore.checkpoint.Goals as goal

pub invariant_of-self : goal.invariant_of-self
invariant_of-self c = (c.checkpoint.ensures.whole, (c.checkpoint.ensures.behind, kept_same _ _ _ _ _ c.self.invariant.1.1 c.checkpoint.ensures.ends c.checkpoint.ensures.machine))
