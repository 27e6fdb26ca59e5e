use Rattle.std.proofs.Common.{◌≡◌, ◌≤◌, ◌+◌, length}
use Rattle.shared_engine.specs.Engines.{IsLocked}
use Rattle.shared_engine.specs.Holds.{accesses}
use Rattle.shared_engine.proofs.Blocks.{IsSoFar}
use Rattle.shared_engine.proofs.locked.Locked.lone_lines.Given as goal

-- what is in front of the commands left was done, there is room for the replies to come, and what lies under the lock
-- goes with the desk
abbrev pub invariant-lines : goal.invariant-lines
invariant-lines l = record {
  so_far : IsSoFar (accesses l.fn.asked.commands) (accesses l.asked.commands) l.told.served l.fn.self.core.units l.self.core.units l.fn.session.held l.session.held;
  level : l.session.held.state.level ≡ 0;
  seen : l.session.held.seen ≡ l.self.core.units;
  room : length l.asked.commands ≤ l.told.room;
  answers : l.asked.others ≤ l.told.answers;
  spare : l.asked.room ≡ l.fn.asked.room;
  count : l.told.room + length l.fn.asked.commands ≡ l.fn.told.room + length l.asked.commands;
  opened : l.desk.knows.given ≡ l.fn.desk.knows.given;
  tables : (l.desk.table ≡ l.fn.desk.table) × (l.session.table ≡ l.fn.session.table);
  stands : IsLocked l.self.core l.desk l.self.seats l.self.horizon l.self.opened;
  seats : l.self.seats ≡ l.fn.self.seats;
}

abbrev pub decreases-lines : goal.decreases-lines
decreases-lines l = length l.asked.commands
