use Rattle.lock_name.specs.Locks.{count_of}
use Rattle.lock_trie.specs.Held.{held_count}
use Rattle.lock_trie.specs.laws.Conflicts.{AreThere}
use Rattle.lock_table.proofs.Moving.{Sinking, given_to}
use Rattle.lock_table.proofs.counts.Counts.give.Given as goal

abbrev pub invariant-loop-name : goal.invariant-loop-name
invariant-loop-name l = record {
  can : (goal.iterator-loop-name).can_next l.name-iterator;
  finite : (goal.iterator-loop-name).is_finite l.name-iterator;
  there : AreThere l.others l.name-iterator;
  sinking : Sinking (count_of l.initial.self) (count_of l.self) (given_to (held_count l.trie l.job) l.others) l.others l.name-iterator;
}
