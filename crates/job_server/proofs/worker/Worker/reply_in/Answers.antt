use Rattle.std.proofs.Common.{sym, subst}
use Rattle.std.specs.Prelude.{Option, Some}
use Rattle.shared_engine.specs.Sessions.{Held}
use Rattle.job_server.specs.Steps.{sessions_so_far, HasDoneSteps, IsReplied}
use Rattle.job_server.proofs.Stepping.{call_steps}
use Rattle.job_server.proofs.worker.Worker.reply_in.Goals as goal

pub returns-in-Some-clause-told : goal.returns-in-Some-clause-told
returns-in-Some-clause-told g c = λ job p.
    subst (λ (o : Option Held). HasDoneSteps (IsReplied c.args.command c.reply_to.result) job (sessions_so_far p o) (sessions_so_far p (Some c.reply_to.new.session))) (sym c.in-Some.is)
    (call_steps job p c.args.command c.reply_to.result c.in-Some.session c.reply_to.new.session c.reply_to.ensures.done)
