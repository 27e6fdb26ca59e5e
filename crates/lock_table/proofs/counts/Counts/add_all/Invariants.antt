use Rattle.std.proofs.Common.{◌≡◌, ◌≤◌, length, drop}
use Rattle.lock_name.specs.Locks.{more_of}
use Rattle.lock_table.proofs.counts.Counts.add_all.Given as goal

abbrev pub invariant-loop-i : goal.invariant-loop-i
invariant-loop-i l = record { in_range : l.i ≤ length l.names; whole : more_of (drop l.i l.names) l.self ≡ more_of l.names l.initial.self }
