use Rattle.std.proofs.Common.{◌≤◌, length}
use Rattle.lock_name.specs.Locks.{count_of}
use Rattle.lock_table.proofs.Moving.{RoomLeft}
use Rattle.lock_table.proofs.counts.Counts.have_room.Given as goal

abbrev pub invariant-loop-name : goal.invariant-loop-name
invariant-loop-name l = record { in_range : l.name-index ≤ length l.names; left : RoomLeft (count_of l.self) l.names l.name-index }
