use Rattle.std.proofs.Common.{◌∙◌, List, ap, subst, arith}
use Rattle.shared_engine.specs.Sessions.{knowing}
use Rattle.shared_engine.specs.Receipts.{Book}
use Rattle.job_server.specs.Steps.{AreBefore}
use Rattle.job_server.proofs.worker.Worker.begin_behind.Goals as goal

pub returns : goal.returns
returns g c =
    let begun = c.in-Ok.ensures.session in
    let before = c.if-not-are_before.false in
    let seen = c.look-count.new.session.seen in (
      seen,
      (
        omega (arith, c.if-count-since.false, c.look-count.ensures.count),
        subst (λ n. AreBefore n c.args.passes.now.items) c.look-count.ensures.count (subst (λ (ps : List Book). AreBefore c.look-count.result ps) c.as_slice.ensures.value (c.are_before.ensures before)),
      ),
      c.look-count.ensures.same ∙ ap (knowing seen) begun.1,
    )
