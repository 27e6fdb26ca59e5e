use Rattle.std.proofs.Common.{refl}
use Rattle.job_server.specs.Telling.{IsBackAt, Reaches}
use Rattle.job_server.proofs.GoingOn.{begins_again, begins_advances}
use Rattle.job_server.proofs.Answering.{where_none, where_some}
use Rattle.job_server.proofs.Waiting.{tried_alone, tried_back}
use Rattle.job_server.proofs.worker.Worker.serve_block.Goals as goal

pub returns-in-Some : goal.returns-in-Some
returns-in-Some g c =
    let line = c.args.line in
    let new = c.try_once.new.run in
    begins_advances c.args.job line c.in-Some.place c.args.run.now c.tries.run new c.tries.invariant.began
    (where_some c.in_ok-place.field-0 c.in-Some.place (λ behind. Reaches c.args.job line.next.lines.now behind c.tries.run new) c.in_ok-place.ensures.over c.in-Some.is)

pub tries-preserved : goal.tries-preserved
tries-preserved g c =
    let before = c.tries.run in
    let tried = c.try_once.new.run in
    let back = where_none {P = IsBackAt c.args.job c.args.line.next.lines.now before tried} c.in_ok-place.field-0 c.in_ok-place.ensures.again c.in_default.is in
    record { began = begins_again c.args.job c.args.line c.args.run.now before tried tried c.requires c.tries.invariant.began back.0 refl back.1 }

pub returns-in-Some-3 : goal.returns-in-Some-3
returns-in-Some-3 g c =
    let line = c.args.line in
    let new = c.try_serially.new.run in
    let tried = tried_alone c.args.job line.next.lines.now c.in_ok-place-2.field-0 c.in-Some-3.place c.alone.run new c.in_ok-place-2.ensures c.in-Some-3.is in
    begins_advances c.args.job line c.in-Some-3.place c.args.run.now tried.0 new (begins_again c.args.job line c.args.run.now c.alone.run tried.0 tried.0 c.requires c.alone.invariant.began tried.1.0 refl tried.1.1) tried.2

pub alone-preserved : goal.alone-preserved
alone-preserved g c =
    let back = tried_back c.args.job c.args.line.next.lines.now c.in_ok-place-2.field-0 c.alone.run c.try_serially.new.run c.in_ok-place-2.ensures c.in_default-2.is in
    record { began = begins_again c.args.job c.args.line c.args.run.now c.alone.run c.try_serially.new.run c.try_serially.new.run c.requires c.alone.invariant.began back.0 refl back.1 }
