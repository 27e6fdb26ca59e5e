use Rattle.job_core.proofs.AtWork.{ended_kept}
use Rattle.job_core.proofs.engine.Engine.halt_kept.Goals as goal

pub returns-in-Ok-clause-step : goal.returns-in-Ok-clause-step
returns-in-Ok-clause-step c = ended_kept c.args.job c.args.self.now c.requires.whole c.end_kept.new.self c.close.new.self c.in-Ok._receipt c.oldest-oldest.result c.in-Ok.ensures.added c.oldest-oldest.ensures c.close.ensures
