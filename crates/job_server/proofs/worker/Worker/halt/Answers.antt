use Rattle.std.proofs.lemmas.Result.{IfOk-weaker}
use Rattle.command.specs.declared.request.Command.TheVariants.{Halt}
use Rattle.job_server.specs.Steps.{past, sessions_so_far, IsReplied}
use Rattle.job_server.proofs.GoingOn.{goes_from}
use Rattle.job_server.proofs.Ending.{from_books}
use Rattle.job_server.proofs.worker.Worker.halt.Goals as goal

pub returns-clause-told : goal.returns-clause-told
returns-clause-told g c =
    let inside = c.sessions.inside in
    let new = sessions_so_far (past inside.since c.halt_reserved.new.passes.items) c.halt_reserved.new.session in
    IfOk-weaker c.halt_reserved.result _ _
    (λ reply told job. goes_from (IsReplied Halt reply) job (sessions_so_far (past inside.since inside.passes.items) inside.open) c.args.sessions.now new c.sessions.view_is
    (from_books job inside.since reply inside.passes.items c.reserve.new.self.items inside.open new c.reserve.ensures.items (told job inside.since)))
    c.halt_reserved.ensures.told
