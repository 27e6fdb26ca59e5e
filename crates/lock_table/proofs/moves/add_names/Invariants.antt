use Rattle.std.proofs.Common.{◌≤◌, length}
use Rattle.lock_trie.specs.Held.{held_count}
use Rattle.lock_table.specs.Rows.{AreOthersSame}
use Rattle.lock_table.proofs.Moving.{MoreLeft}
use Rattle.lock_table.proofs.moves.add_names.Given as goal

abbrev pub invariant-loop-i : goal.invariant-loop-i
invariant-loop-i l = record {
  in_range : l.i ≤ length l.names;
  others : AreOthersSame l.initial.trie l.trie l.job;
  left : MoreLeft (held_count l.initial.trie l.job) (held_count l.trie l.job) l.names l.i;
}
