use Rattle.std.proofs.Common.{List, length, subst, arith}
use Rattle.shared_engine.specs.Receipts.{Book}
use Rattle.job_server.specs.Steps.{AreBefore}
use Rattle.job_server.proofs.Handing.{answered}
use Rattle.job_server.proofs.Loads.{begins}
use Rattle.job_server.proofs.serving.serve_on.Goals as goal

pub returns : goal.returns
returns g c =
    let same = c.if-closed-passes.false in
    let count = c.len-passes.ensures in
    let handed = c.in_ok-handed.handed.passes in
    let all = c.append.new.self in
    let joined = c.in_ok-append.ensures.items in
    let slots = c.in_ok-gathered.gathered.slots in
    let scripts = c.args.scripts in
    let since = c.in_ok-since.since in
    record {
      begins = λ ended settings is. begins ended settings _ c.args.loaded.items handed.items all.items is joined c.finish-closed.ensures.in_journal;
      answered = λ ended settings is load. answered ended since settings scripts.items g.B.Batch.scripts (length slots.items) _ c.args.loaded.items handed.items all.items _ c.requires c.in_ok-handed.ensures
          (omega (arith, c.len.ensures, c.if-len-count.false, c.len-count.ensures, slots.ok.0, scripts.ok.0)) is (subst (λ (ps : List Book). AreBefore since ps) c.as_slice.ensures.value c.in_ok-since.ensures) joined
          (c.finish-closed.ensures.all_units (omega (arith, same, count)) (omega (arith, same, count, all.ok, all.small))) c.finish-closed.ensures.seen
          (record { exact = c.steps_are_exact.ensures; know = c.histories_go_on.ensures.know; go_on = c.histories_go_on.ensures.step; end = c.histories_end.ensures }) (omega (arith, c.is_counted.ensures, c.now.ensures.units)) load;
    }
