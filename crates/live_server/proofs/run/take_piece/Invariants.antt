use Rattle.std.proofs.Common.{◌≡◌, ◌≤◌, ◌-◌, ◌++◌, true, length, drop}
use Rattle.script_run.specs.Lines.{has_no_end}
use Rattle.live_server.specs.Runs.{RanFront}
use Rattle.live_server.proofs.run.take_piece.Given as goal

-- the lines that end before came, and one has begun
abbrev pub invariant-lines : goal.invariant-lines
invariant-lines g l = record {
  in_range : l.at ≤ length l.piece;
  whole : has_no_end l.begun.items ≡ true;
  ran : RanFront (l.fn.begun.items ++ l.piece) (l.begun.items ++ drop l.at l.piece) l.fn.live l.live (g.W.Write.contents l.fn.writer.inner) (g.W.Write.contents l.writer.inner);
}

abbrev pub decreases-lines : goal.decreases-lines
decreases-lines g l = length l.piece - l.at
