use Rattle.job_core.proofs.machine.JobCore.content_at_start.Goals as goal

pub returns : goal.returns
returns c = rw (← c.self.view_is) c.content_at_start.ensures
