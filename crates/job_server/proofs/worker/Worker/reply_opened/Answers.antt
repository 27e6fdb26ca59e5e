use Rattle.std.proofs.Common.{ℕ, sym, subst, IfOk}
use Rattle.std.proofs.lemmas.Result.{IfOk-weaker}
use Rattle.command.specs.declared.request.Command.{Command}
use Rattle.command.specs.declared.request.Reply.{Reply}
use Rattle.job_server.specs.Steps.{past, sessions_so_far, HasDoneSteps, IsReplied}
use Rattle.job_server.proofs.GoingOn.{goes_from}
use Rattle.job_server.proofs.worker.Worker.reply_opened.Goals as goal

pub returns-then-is_halt-clause-told : goal.returns-then-is_halt-clause-told
returns-then-is_halt-clause-told g c =
    subst (λ (x : Command). IfOk c.halt.result (λ (reply : Reply). (job : ℕ) → HasDoneSteps (IsReplied x reply) job c.args.sessions.now c.halt.new.sessions)) (sym (c.is_halt.ensures.halts c.if-is_halt.true)) c.halt.ensures.told

pub returns-clause-told : goal.returns-clause-told
returns-clause-told g c =
    let p = past c.sessions.inside.since c.sessions.inside.passes.items in
    IfOk-weaker c.reply_in.result _ _
    (λ reply h job. goes_from (IsReplied c.args.command reply) job (sessions_so_far p c.sessions.inside.open) c.args.sessions.now (sessions_so_far p c.reply_in.new.session) c.sessions.view_is (h job p)) c.reply_in.ensures.told
