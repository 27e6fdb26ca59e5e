use Rattle.std.proofs.Common.{◌≡◌, true, []}
use Rattle.script_run.specs.Lines.{has_no_end}
use Rattle.live_server.specs.Runs.{RanFront}
use Rattle.live_server.proofs.run.run_pieces.Given as goal

-- the lines so far came, and one has begun
abbrev pub invariant-pieces : goal.invariant-pieces
invariant-pieces g l = record {
  ran : RanFront (g.A.Arrivals.taken l.arrivals) l.begun.items l.fn.live l.live (g.W.Write.contents l.fn.writer.inner) (g.W.Write.contents l.writer.inner);
  whole : has_no_end l.begun.items ≡ true;
  empty : l.live.script.out.items ≡ [];
  origin : g.A.Arrivals.origin l.arrivals ≡ g.A.Arrivals.origin l.fn.arrivals;
}
