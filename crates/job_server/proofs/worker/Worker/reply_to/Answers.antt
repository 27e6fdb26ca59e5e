use Rattle.std.proofs.lemmas.Result.{IfOk-weaker}
use Rattle.job_server.specs.Steps.{IsReplied}
use Rattle.job_server.proofs.Stepping.{done_then}
use Rattle.job_server.proofs.worker.Worker.reply_to.Goals as goal

pub returns-in-Ok-clause-told : goal.returns-in-Ok-clause-told
returns-in-Ok-clause-told g c =
    IfOk-weaker c.reply_opened.result _ _
    (λ reply h. done_then (IsReplied c.args.command reply) c.args.job c.args.sessions.now c.begin.new.sessions c.reply_opened.new.sessions c.in-Ok.ensures (h c.args.job))
    c.reply_opened.ensures.told
