use Rattle.std.proofs.Common.{refl}
use Rattle.command.specs.declared.access.DataCommand.TheVariants.{Set}
use Rattle.job_core.proofs.DataCommands.{readable}
use Rattle.job_core.proofs.Inside.{set_stepped}
use Rattle.job_core.proofs.engine.Engine.set_inside.Goals as goal

pub set-requires-clause-begun : goal.set-requires-clause-begun
set-requires-clause-begun c = readable c.args.job (Set c.args.key.now c.args.value.now) c.args.self.now c.requires.whole _ refl

pub returns-clause-step : goal.returns-clause-step
returns-clause-step c = set_stepped c.set.result c.args.job c.args.key.now c.args.value.now c.args.self.now c.requires.whole c.set.new.self c.requires.some c.set.ensures.answered
