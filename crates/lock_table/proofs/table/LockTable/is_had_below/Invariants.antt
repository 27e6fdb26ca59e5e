use Rattle.lock_trie.specs.laws.Conflicts.{Left}
use Rattle.lock_table.proofs.Below.{has_other_below}
use Rattle.lock_table.proofs.table.LockTable.is_had_below.Given as goal

abbrev pub invariant-loop-other : goal.invariant-loop-other
invariant-loop-other l = record {
  can : (goal.iterator-loop-other).can_next l.other-iterator;
  finite : (goal.iterator-loop-other).is_finite l.other-iterator;
  left : Left (has_other_below l.job l.name) l.self l.other-iterator;
}
