use Rattle.std.proofs.Common.{◌≡◌, ◌≤◌, ◌+◌, length, drop}
use Rattle.std.specs.Prelude.{min}
use Rattle.collation.specs.Reference.{Resource}
use Rattle.lock_name.specs.Locks.{count_of}
use Rattle.lock_name.specs.LockStatements.{times}
use Rattle.lock_table.proofs.chosen.within.Given as goal

abbrev pub invariant-loop-name : goal.invariant-loop-name
invariant-loop-name l = record {
  in_range : l.name-index ≤ length l.names;
  whole : (x : Resource) → times x l.kept.items + min (times x (drop l.name-index l.names)) (count_of l.left x) ≡ min (times x l.names) (count_of l.initial.left x);
}
