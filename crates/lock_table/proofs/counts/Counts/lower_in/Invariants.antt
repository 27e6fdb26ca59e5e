use Rattle.lock_name.specs.Locks.{count_of}
use Rattle.lock_trie.specs.Held.{held_count}
use Rattle.lock_table.specs.Rows.{AreOthersSame}
use Rattle.lock_table.proofs.Moving.{Sinking}
use Rattle.lock_table.proofs.counts.Counts.lower_in.Given as goal

abbrev pub invariant-loop-name : goal.invariant-loop-name
invariant-loop-name l = record {
  can : (goal.iterator-loop-name).can_next l.name-iterator;
  finite : (goal.iterator-loop-name).is_finite l.name-iterator;
  others : AreOthersSame l.initial.trie l.trie l.job;
  sinking : Sinking (held_count l.initial.trie l.job) (held_count l.trie l.job) (count_of l.held) l.self l.name-iterator;
}
