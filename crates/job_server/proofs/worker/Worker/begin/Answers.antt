use Rattle.std.proofs.Common.{◌∙◌}
use Rattle.std.proofs.lemmas.Result.{on_ok_weaker}
use Rattle.job_server.specs.Steps.{past, sessions_so_far, IsNoStep}
use Rattle.job_server.proofs.GoingOn.{goes_from}
use Rattle.job_server.proofs.worker.Worker.begin.Goals as goal

pub returns-in-Ok : goal.returns-in-Ok
returns-in-Ok g c =
    let inside = c.sessions.inside in
    let p = past inside.since inside.passes.items in
    on_ok_weaker c.open.result
    (λ told. goes_from IsNoStep c.args.job (sessions_so_far p inside.open) c.args.sessions.now (sessions_so_far p c.open.new.session) (c.sessions.view_is ∙ c.make_room.ensures) told)
    c.open.ensures
