use Rattle.std.proofs.Common.{◌≡◌, ◌≤◌, ◌+◌, ◌-◌, length}
use Rattle.pin_board.specs.Views.{dealing}
use Rattle.shared_engine.specs.Engines.{SameSessions, AreInPlace, sessions_in}
use Rattle.shared_engine.proofs.seats.Seats.reach.Given as goal

-- there is a seat for each place that was dealt, of this board, and nobody's session has changed
abbrev pub invariant-deal : goal.invariant-deal
invariant-deal l = record {
  dealt : length l.self-inside.places.items ≡ l.desk.knows.dealt;
  table : l.desk.table ≡ l.fn.desk.table;
  desk : l.desk.knows ≡ dealing l.fn.desk.knows l.desk.knows.dealt;
  same : SameSessions l.fn.self l.self-inside.places.items;
  as_many : sessions_in l.self-inside.places.items ≡ sessions_in l.fn.self;
  longer : length l.fn.self ≤ length l.self-inside.places.items;
  placed : AreInPlace l.fn.board.table l.self-inside.places.items;
}

abbrev pub decreases-deal : goal.decreases-deal
decreases-deal l = l.place + 1 - length l.self-inside.places.items
