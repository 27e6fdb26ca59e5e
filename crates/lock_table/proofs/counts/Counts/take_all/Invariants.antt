use Rattle.std.proofs.Common.{◌≡◌, ◌≤◌, length, drop}
use Rattle.lock_name.specs.Locks.{fewer_of}
use Rattle.lock_table.proofs.counts.Counts.take_all.Given as goal

abbrev pub invariant-loop-name : goal.invariant-loop-name
invariant-loop-name l = record { in_range : l.name-index ≤ length l.names; whole : fewer_of (drop l.name-index l.names) l.self ≡ fewer_of l.names l.initial.self }
