use Rattle.std.proofs.Common.{length}
use Rattle.job_server.specs.Telling.{ReachesWithin}
use Rattle.job_server.proofs.worker.Worker.try_block.Given as goal

-- lines in front were done, and the transaction goes on
abbrev pub invariant-lines : goal.invariant-lines
invariant-lines g l = ReachesWithin l.fn.job l.fn.begin.lines.now l.place l.fn.run l.run

abbrev pub decreases-lines : goal.decreases-lines
decreases-lines g l = length l.place.lines.now
