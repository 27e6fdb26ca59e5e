use Rattle.std.proofs.Common.{ℕ, List, sym, subst}
use Rattle.std.specs.Borrow.{Bor}
use Rattle.std.specs.Prelude.{Option, Some}
use Rattle.std.proofs.lemmas.Result.{IfOk-weaker}
use Rattle.job_scripts.specs.Lines.{lent_lines}
use Rattle.job_server.specs.Steps.{HasRunScript}
use Rattle.job_server.proofs.worker.Worker.run_job.Goals as goal

pub returns-in-Ok-clause-run : goal.returns-in-Ok-clause-run
returns-in-Ok-clause-run g c =
    let since = c.args.since in
    let run = c.serve_all.new.run in
    let done = c.in-Ok.ensures since c.in_ok-run.ensures in
    IfOk-weaker c.ran_to_end.result _ _
    (λ ran h. h since
    (subst (λ (o : Option ℕ). HasRunScript since o (lent_lines c.args.script.now.lines.items) run.replies run.sessions.past.books) (sym c.requires)
    (subst (λ (t : List (Bor (List ℕ))). HasRunScript since (Some c.args.job) (lent_lines t) run.replies run.sessions.past.books) c.deref.ensures.value done)))
    c.ran_to_end.ensures.run
