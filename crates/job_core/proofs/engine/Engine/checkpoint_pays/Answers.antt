use Rattle.job_core.proofs.Bases.{horizon_in}
use Rattle.job_core.proofs.engine.Engine.checkpoint_pays.Goals as goal

pub checkpoint_pays-requires : goal.checkpoint_pays-requires
checkpoint_pays-requires c = horizon_in c.oldest-oldest.result c.args.self.now c.requires c.oldest-oldest.ensures
