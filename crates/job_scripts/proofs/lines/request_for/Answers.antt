use Rattle.std.proofs.Common.{rules}
use Rattle.job_scripts.proofs.lines.request_for.Goals as goal

pub returns-else-eq : goal.returns-else-eq
returns-else-eq c = c.refusal_of_other.ensures c.args.job c.args.line.now c.in-Ok.ensures.request (search rules)
