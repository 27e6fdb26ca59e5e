use Rattle.std.proofs.Common.{◌≡◌}
use Rattle.lock_trie.proofs.Copying.{with_all}
use Rattle.lock_trie.proofs.map.NameMap.copy.Given as goal

abbrev pub invariant-loop-name : goal.invariant-loop-name
invariant-loop-name g l = record {
  can : (goal.iterator-loop-name g).can_next l.name-iterator;
  finite : (goal.iterator-loop-name g).is_finite l.name-iterator;
  all : with_all l.name-iterator l.copy ≡ l.self;
}
