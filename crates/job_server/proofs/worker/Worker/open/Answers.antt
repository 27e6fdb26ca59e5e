use Rattle.std.proofs.Common.{sym, ◌∙◌}
use Rattle.job_server.specs.Steps.{past, sessions_so_far}
use Rattle.job_server.proofs.GoingOn.{none_goes}
use Rattle.job_server.proofs.Ending.{opened_from}
use Rattle.job_server.proofs.worker.Worker.open.Goals as goal

pub returns-in-Ok : goal.returns-in-Ok
returns-in-Ok g c = opened_from c.args.job (past c.args.since c.args.passes.now.items) c.args.session.now c.in-Ok.begun (sym c.is_some.ensures ∙ c.if-is_some.false) c.in-Ok.ensures

pub returns-then-is_some : goal.returns-then-is_some
returns-then-is_some g c = none_goes c.args.job (sessions_so_far (past c.args.since c.args.passes.now.items) c.args.session.now)
