use Rattle.std.proofs.Common.{length}
use Rattle.job_scripts.specs.Lines.{lent_lines}
use Rattle.job_server.specs.Telling.{Refuses}
use Rattle.job_server.proofs.worker.refuse_lines.Given as goal

-- the lines in front were refused
abbrev pub invariant-lines : goal.invariant-lines
invariant-lines l = Refuses (lent_lines l.fn.lines) (lent_lines l.place.lines.now) l.fn.replies.replies l.replies.replies

abbrev pub decreases-lines : goal.decreases-lines
decreases-lines l = length l.place.lines.now
