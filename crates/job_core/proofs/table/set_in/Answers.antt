use Rattle.command.specs.declared.access.DataCommand.TheVariants.{Set}
use Rattle.job_core.specs.Lent.{done_answer}
use Rattle.job_core.proofs.Slots.{answers_in}
use Rattle.job_core.proofs.table.set_in.Goals as goal

pub returns-clause-answered : goal.returns-clause-answered
returns-clause-answered c = answers_in (Set c.args.key.now c.args.value.now) (done_answer c.read_set.result) c.args.core.now.units c.in-Some.session c.read_set.new.session c.args.slot.now c.in-Some.is c.read_set.ensures.answered
