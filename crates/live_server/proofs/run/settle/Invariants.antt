use Rattle.live_server.specs.Runs.{Settled}
use Rattle.live_server.proofs.run.settle.Given as goal

abbrev pub invariant-rounds : goal.invariant-rounds
invariant-rounds g l = Settled l.fn.live l.live (g.W.Write.contents l.fn.writer.inner) (g.W.Write.contents l.writer.inner)
