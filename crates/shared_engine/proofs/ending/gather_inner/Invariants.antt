use Rattle.std.proofs.Common.{◌≡◌, ◌+◌, length}
use Rattle.shared_engine.specs.Engines.{IsDue}
use Rattle.shared_engine.specs.Named.{AreOf, books_of}
use Rattle.shared_engine.proofs.ending.gather_inner.Given as goal

-- the passes that are left are due, and are of the board, and each one taken in was counted
abbrev pub invariant-loop-pass : goal.invariant-loop-pass
invariant-loop-pass l = record {
  due : IsDue (books_of l.fn.passes.items) (books_of l.passes.items) l.tally.knows.back l.tally.knows.known;
  of : AreOf l.board.table l.passes.items;
  units : l.tally.knows.units ≡ l.fn.tally.knows.units;
  given : l.tally.knows.given ≡ l.fn.tally.knows.given;
  table : l.tally.table ≡ l.fn.tally.table;
  count : l.tally.knows.returned + length l.passes.items ≡ length l.fn.passes.items;
}

abbrev pub decreases-loop-pass : goal.decreases-loop-pass
decreases-loop-pass l = length l.passes.items
