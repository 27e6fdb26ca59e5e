use Rattle.std.proofs.Common.{◌≤◌, length}
use Rattle.lock_trie.specs.Held.{held_count}
use Rattle.lock_table.specs.Rows.{AreOthersSame}
use Rattle.lock_table.proofs.Moving.{FewerLeft}
use Rattle.lock_table.proofs.moves.take_names.Given as goal

abbrev pub invariant-loop-name : goal.invariant-loop-name
invariant-loop-name l = record {
  in_range : l.name-index ≤ length l.names;
  others : AreOthersSame l.initial.trie l.trie l.job;
  left : FewerLeft (held_count l.initial.trie l.job) (held_count l.trie l.job) l.names l.name-index;
}
