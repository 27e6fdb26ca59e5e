use Rattle.std.proofs.Common.{◌≡◌, ◌≤◌, ◌+◌, ◌++◌, List, length}
use Rattle.std.specs.Prelude.{map}
use Rattle.collation.specs.Reference.{Reference}
use Rattle.pin_board.specs.Slips.{IsBeginning}
use Rattle.shared_engine.specs.Sessions.{knowing}
use Rattle.shared_engine.specs.Holds.{get_of, AreGathered}
use Rattle.shared_engine.proofs.shared.Shared.read_ahead.Given as goal

-- $GETs of the keys before those that are left are gathered, as things were when the session looked last
abbrev pub invariant-pieces : goal.invariant-pieces
invariant-pieces g l = record {
  own : l.session.table ≡ l.fn.session.table;
  same : l.session.held ≡ knowing l.session.held.seen l.fn.session.held;
  goes_on : IsBeginning l.session.held.seen l.fn.session.held.seen;
  done : (before : List Reference) × (l.hold.commands ≡ map get_of (before ++ l.left)) × (1 ≤ length (before ++ l.left)) × AreGathered l.fn.session.held.state.work.job l.ahead.number l.session.held.seen before l.ahead.gets l.ahead.told.served × (l.hold.room + length l.hold.commands ≤ l.ahead.told.room + length before);
}

abbrev pub decreases-pieces : goal.decreases-pieces
decreases-pieces g l = length l.left
