use Rattle.std.proofs.Common.{sym, ◌∙◌}
use Rattle.job_server.proofs.Stepped.{lone_stepped}
use Rattle.job_server.proofs.job_run.Calls.access.Goals as goal

pub returns-then-tlevel-eq0 : goal.returns-then-tlevel-eq0
returns-then-tlevel-eq0 g c = lone_stepped c.args.command c.lone.result c.args.session.now c.lone.new.session (sym c.tlevel.ensures ∙ c.if-tlevel-eq0.true) c.lone.ensures.done
