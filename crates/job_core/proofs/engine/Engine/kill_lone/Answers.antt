use Rattle.std.proofs.Common.{refl}
use Rattle.command.specs.declared.access.DataCommand.TheVariants.{Kill}
use Rattle.command.specs.declared.access.Extent.TheVariants.{All}
use Rattle.command.specs.declared.access.Answer.TheVariants.{Done}
use Rattle.journal.specs.Kept.{Claim}
use Rattle.job_core.proofs.DataCommands.{answered_outside, refused_outside}
use Rattle.job_core.proofs.ByReference.{kill_never_early}
use Rattle.job_core.proofs.engine.Engine.kill_lone.Goals as goal

pub returns-in-Ok-clause-step : goal.returns-in-Ok-clause-step
returns-in-Ok-clause-step c = answered_outside c.args.job (Kill c.args.key.now All) c.args.self.now c.requires.whole Done c.in-Ok._told c.oldest-oldest.result c.kill_lone.new.self c.requires.none refl refl c.in-Ok.ensures.added
    c.oldest-oldest.ensures

pub returns-in-Err-clause-step : goal.returns-in-Err-clause-step
returns-in-Err-clause-step c = refused_outside c.args.job (Kill c.args.key.now All) c.args.self.now c.requires.whole {A = Claim} c.in-Err.refusal c.kill_lone.new.self c.requires.none c.in-Err.ensures.cause c.in-Err.ensures.refused c.in-Err.ensures.agreed
    (kill_never_early c.args.key.now c.in-Err.refusal)
