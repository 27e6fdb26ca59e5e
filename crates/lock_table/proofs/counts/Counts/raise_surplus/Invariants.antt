use Rattle.std.proofs.Common.{◌≤◌, length}
use Rattle.lock_name.specs.Locks.{count_of}
use Rattle.lock_table.specs.Counted.{AreRaised, less}
use Rattle.lock_table.proofs.Moving.{HighLeft}
use Rattle.lock_table.proofs.counts.Counts.raise_surplus.Given as goal

abbrev pub invariant-loop-name : goal.invariant-loop-name
invariant-loop-name l = record {
  in_range : l.name-index ≤ length l.names;
  raised : AreRaised (count_of l.initial.self) (count_of l.self) (count_of (less l.counts l.others));
  left : HighLeft (count_of l.self) (count_of (less l.counts l.others)) l.names l.name-index;
}
