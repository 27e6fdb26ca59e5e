use Rattle.std.proofs.Common.{[]}
use Rattle.live_server.specs.Runs.{Ran}
use Rattle.live_server.proofs.run.do_lines.Given as goal

abbrev pub invariant-lines : goal.invariant-lines
invariant-lines g l = Ran [] l.fn.live l.live (g.W.Write.contents l.fn.writer.inner) (g.W.Write.contents l.writer.inner)
