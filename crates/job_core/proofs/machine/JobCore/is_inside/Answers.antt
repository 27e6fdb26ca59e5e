use Rattle.std.proofs.Common.{sym, ◌∙◌}
use Rattle.job_core.proofs.ByReference.{inside_is}
use Rattle.job_core.proofs.machine.JobCore.is_inside.Goals as goal

pub returns : goal.returns
returns c = rw (← c.self.view_is) (c.is_inside.ensures ∙ sym (inside_is c.self.inside.engine.core.units c.self.inside.engine.sessions c.args.job))
