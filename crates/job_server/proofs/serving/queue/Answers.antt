use Rattle.std.proofs.Common.{◌≡◌, ℕ, map, sym, ap, subst, ◌∙◌}
use Rattle.std.specs.Prelude.{Some, slice_get}
use Rattle.std.specs.Vec.Iter.{into_iter_items}
use Rattle.std.specs.Iterator.Adapters.{enumerate_source, enumerate_count}
use Rattle.job_scripts.specs.Groups.{shown}
use Rattle.job_server.proofs.Handing.{front_is, rest_is}
use Rattle.job_server.proofs.serving.queue.Goals as goal

pub invariant_of-task : goal.invariant_of-task
invariant_of-task g c =
    let scripts = g.B.Batch.scripts in
    let step = c.in-Some.ensures.steps in
    let rest = map shown (into_iter_items (enumerate_source c.next.new.self)) in
    record {
      from = subst (λ (n : ℕ). slice_get scripts n ≡ Some (shown c.in-Some.script)) (sym step.1)
          (front_is scripts (enumerate_count c.loop-place.place-iterator) (shown c.in-Some.script) rest (sym (ap (map shown) step.0.0) ∙ c.loop-place.invariant));
    }

pub loop-place-preserved : goal.loop-place-preserved
loop-place-preserved g c =
    let step = c.in-Some.ensures.steps in
    let rest = map shown (into_iter_items (enumerate_source c.next.new.self)) in
    rest_is g.B.Batch.scripts (enumerate_count c.loop-place.place-iterator) (enumerate_count c.next.new.self) (shown c.in-Some.script) rest (sym (ap (map shown) step.0.0) ∙ c.loop-place.invariant) step.2
