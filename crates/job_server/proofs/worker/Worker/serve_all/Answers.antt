use Rattle.std.proofs.Common.{[], sym, subst}
use Rattle.std.proofs.lemmas.Result.{on_ok_weaker}
use Rattle.job_scripts.specs.Lines.{lent_lines}
use Rattle.job_server.specs.Telling.{Running, running, Serves}
use Rattle.job_server.proofs.Ending.{run_steps}
use Rattle.job_server.proofs.worker.Worker.serve_all.Goals as goal

pub returns : goal.returns
returns g c =
    let inside = c.run.inside in
    on_ok_weaker c.stop.result
    (λ stopped since begun.
    run_steps c.args.job since (lent_lines c.args.lines.now) c.args.run.now (running inside.replies.replies inside.sessions) c.stop.new.sessions begun
    (subst (λ (x : Running). Serves c.args.job (lent_lines c.args.lines.now) [] c.args.run.now x) (sym c.run.view_is) c.in_ok-serve_lines.ensures) (stopped c.args.job))
    c.stop.ensures
