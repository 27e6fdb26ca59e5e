use Rattle.std.proofs.Common.{◌≡◌, ◌≤◌, ◌+◌, length}
use Rattle.std.specs.List.{All}
use Rattle.shared_engine.specs.Holds.{accesses, IsSet}
use Rattle.shared_engine.proofs.Blocks.{IsSoFar}
use Rattle.shared_engine.proofs.inner.InnerSession.set_lines.Given as goal

-- what is in front of the commands left was done, these are SETs, and there is room for the replies to come
abbrev pub invariant-lines : goal.invariant-lines
invariant-lines l = record {
  so_far : IsSoFar (accesses l.fn.asked.commands) (accesses l.asked.commands) l.told.served l.fn.self.held.seen l.fn.self.held.seen l.fn.self.held l.self.held;
  table : l.self.table ≡ l.fn.self.table;
  level : 1 ≤ l.self.held.state.level;
  seen : l.self.held.seen ≡ l.fn.self.held.seen;
  sets : All IsSet l.asked.commands;
  room : length l.asked.commands ≤ l.told.room;
  answers : l.asked.others ≤ l.told.answers;
  spare : l.asked.room ≡ l.fn.asked.room;
  count : l.told.room + length l.fn.asked.commands ≡ l.fn.told.room + length l.asked.commands;
}

abbrev pub decreases-lines : goal.decreases-lines
decreases-lines l = length l.asked.commands
