use Rattle.std.proofs.Common.{refl}
use Rattle.std.proofs.lemmas.Result.{IfOk-weaker}
use Rattle.job_server.specs.Telling.{running}
use Rattle.job_server.proofs.AtOnce.{opened_advances}
use Rattle.job_server.proofs.worker.Worker.serve_hold.Goals as goal

pub returns : goal.returns
returns g c =
    let replies = c.run.inside.replies.replies in
    let old = running replies c.run.inside.sessions in
    let middle = running replies c.begin.new.sessions in
    IfOk-weaker c.serve_held.result _ _
    (λ behind h. opened_advances c.args.job c.args.line behind old c.args.run.now middle c.serve_held.new.run c.run.view_is refl c.in_ok-begin.ensures h)
    c.serve_held.ensures
