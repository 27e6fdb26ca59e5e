use Rattle.std.specs.Prelude.{None}
use Rattle.std.specs.FinMap as finmap
use Rattle.command.specs.declared.access.DataCommand.TheVariants.{Look}
use Rattle.command.specs.declared.access.Look.TheVariants.{Get}
use Rattle.job_core.specs.Lent.{got_answer, value_in}
use Rattle.job_core.proofs.Held.{least_answered}
use Rattle.job_core.proofs.Opened.{are_answered}
use Rattle.job_core.proofs.sessions.Sessions.read.Goals as goal

pub invariant_of-self : goal.invariant_of-self
invariant_of-self c = record {
  spare = c.self.invariant.spare;
  least = least_answered c.self.inside.oldest (Look (Get c.args.key.now None)) (got_answer (value_in c.args.key.now c.args.core.now.units (finmap.get c.self.inside.table c.args.job)) c.read.result) c.args.core.now.units c.args.job c.self.inside.table c.read.new.self c.self.invariant.least c.read.ensures.answered;
  begun = are_answered c.self.inside.starts (Look (Get c.args.key.now None)) (got_answer (value_in c.args.key.now c.args.core.now.units (finmap.get c.self.inside.table c.args.job)) c.read.result) c.args.core.now.units c.args.job c.self.inside.table c.read.new.self c.self.invariant.begun c.read.ensures.answered;
}
