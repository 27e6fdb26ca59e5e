use Rattle.std.proofs.Common.{◌≡◌, ◌+◌, length, take}
use Rattle.std.specs.Vec.Iter.{into_iter_items}
use Rattle.std.specs.Iterator.Adapters.{enumerate_source, enumerate_count}
use Rattle.job_server.specs.Served.{AreHanded}
use Rattle.job_server.proofs.serving.reports_of.Given as goal

-- the reports in front are handed over
abbrev pub invariant-loop-place : goal.invariant-loop-place
invariant-loop-place g l = record {
  count : enumerate_count l.place-iterator + length (into_iter_items (enumerate_source l.place-iterator)) ≡ length l.fn.slots.items;
  handed : ∥ AreHanded l.fn.since (take (enumerate_count l.place-iterator) g.B.Batch.scripts) l.handed.reports.items l.handed.passes.items ∥₁;
}
