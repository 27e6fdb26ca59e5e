use Rattle.std.proofs.Common.{◌≡◌, map, drop}
use Rattle.std.specs.Vec.Iter.{into_iter_items}
use Rattle.std.specs.Iterator.Adapters.{enumerate_source, enumerate_count}
use Rattle.job_scripts.specs.Groups.{shown}
use Rattle.job_server.proofs.serving.queue.Given as goal

-- those left are the scripts from this place on
abbrev pub invariant-loop-place : goal.invariant-loop-place
invariant-loop-place g l = map shown (into_iter_items (enumerate_source l.place-iterator)) ≡ drop (enumerate_count l.place-iterator) g.B.Batch.scripts
