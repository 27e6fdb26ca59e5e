use Rattle.std.proofs.Common.{◌≡◌, ◌≤◌, ◌+◌, length, take, IfSome}
use Rattle.job_core.specs.Sessions.{IsOpenOn}
use Rattle.shared_engine.specs.Holds.{accesses}
use Rattle.shared_engine.proofs.Blocks.{IsSoFar}
use Rattle.shared_engine.proofs.locked.Locked.read_lines.Given as goal

-- what is in front of the commands left was done, the content of the start is there, and there is room for the replies to
-- come
abbrev pub invariant-lines : goal.invariant-lines
invariant-lines l = record {
  so_far : IsSoFar (accesses l.fn.asked.commands) (accesses l.asked.commands) l.told.served l.fn.self.core.units l.fn.self.core.units l.fn.session.held l.session.held;
  table : l.session.table ≡ l.fn.session.table;
  level : 1 ≤ l.session.held.state.level;
  start : IfSome l.session.held.start (λ base. base ≡ take (length base) l.fn.self.core.units);
  seen : l.session.held.seen ≡ l.fn.self.core.units;
  kept : IsOpenOn l.fn.self.core l.session.held.state;
  room : length l.asked.commands ≤ l.told.room;
  answers : l.asked.others ≤ l.told.answers;
  spare : l.asked.room ≡ l.fn.asked.room;
  count : l.told.room + length l.fn.asked.commands ≡ l.fn.told.room + length l.asked.commands;
}

abbrev pub decreases-lines : goal.decreases-lines
decreases-lines l = length l.asked.commands
