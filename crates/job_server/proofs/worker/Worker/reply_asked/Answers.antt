use Rattle.std.proofs.Common.{sym, subst}
use Rattle.std.specs.Prelude.{Result}
use Rattle.refusal.specs.declared.Refusal.{Refusal}
use Rattle.command.specs.declared.request.Command.{Command}
use Rattle.command.specs.declared.request.Reply.TheVariants.{Refused}
use Rattle.job_server.specs.Steps.{HasDoneSteps}
use Rattle.job_server.specs.Telling.{IsDoneAs}
use Rattle.job_server.proofs.GoingOn.{asked_goes, refused_goes, both_ok}
use Rattle.job_server.proofs.worker.Worker.reply_asked.Goals as goal

pub returns-in-Ok : goal.returns-in-Ok
returns-in-Ok g c =
    let job = c.args.job in
    let line = c.args.line.now in
    let old = c.args.sessions.now in
    let new = c.reply_to.new.sessions in
    both_ok c.reply_to.result
    (λ reply h had. subst (λ (a : Result Command Refusal). HasDoneSteps (IsDoneAs line a reply) job old new) (sym c.in-Ok.is) (asked_goes line job c.in-Ok.command reply old new h had))
    c.reply_to.ensures.told c.reply_to.ensures.had

pub returns-in-Err : goal.returns-in-Err
returns-in-Err g c =
    let job = c.args.job in
    let line = c.args.line.now in
    let now = c.args.sessions.now in
    subst (λ (a : Result Command Refusal). HasDoneSteps (IsDoneAs line a (Refused c.in-Err.refusal)) job now now) (sym c.in-Err.is) (refused_goes line job c.in-Err.refusal now)
