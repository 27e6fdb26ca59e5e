use Rattle.std.proofs.Common.{inr, subst}
use Rattle.command.specs.declared.request.Command.TheVariants.{Halt}
use Rattle.command.specs.declared.request.Reply.{Reply}
use Rattle.job_server.specs.Steps.{past, sessions_so_far, HasDoneSteps, IsReplied}
use Rattle.job_server.proofs.Ending.{none_where, stopped_none}
use Rattle.job_server.proofs.worker.Worker.stop.Goals as goal

pub returns-then-is_none : goal.returns-then-is_none
returns-then-is_none g c = λ job.
    let inside = c.sessions.inside in
    stopped_none job (sessions_so_far (past inside.since inside.passes.items) inside.open) c.args.sessions.now c.sessions.view_is (none_where inside.open c.is_none.result c.is_none.ensures c.if-is_none.true)

pub returns-then-is_finished : goal.returns-then-is_finished
returns-then-is_finished g c = λ job.
    let over = c.is_finished.ensures c.if-is_finished.true in
    inr (subst (λ (r : Reply). HasDoneSteps (IsReplied Halt r) job c.args.sessions.now c.halt.new.sessions) over (c.in_ok-reply.ensures.told job), c.in_ok-reply.ensures.over over)
