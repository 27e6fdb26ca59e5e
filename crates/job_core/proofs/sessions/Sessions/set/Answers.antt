use Rattle.command.specs.declared.access.DataCommand.TheVariants.{Set}
use Rattle.job_core.specs.Lent.{done_answer}
use Rattle.job_core.proofs.Held.{least_answered}
use Rattle.job_core.proofs.Opened.{are_answered}
use Rattle.job_core.proofs.sessions.Sessions.set.Goals as goal

pub invariant_of-self : goal.invariant_of-self
invariant_of-self c = record {
  spare = c.self.invariant.spare;
  least = least_answered c.self.inside.oldest (Set c.args.key.now c.args.value.now) (done_answer c.set.result) c.args.core.now.units c.args.job c.self.inside.table c.set.new.self c.self.invariant.least c.set.ensures.answered;
  begun = are_answered c.self.inside.starts (Set c.args.key.now c.args.value.now) (done_answer c.set.result) c.args.core.now.units c.args.job c.self.inside.table c.set.new.self c.self.invariant.begun c.set.ensures.answered;
}
