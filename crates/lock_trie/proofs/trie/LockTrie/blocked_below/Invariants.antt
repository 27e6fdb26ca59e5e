use Rattle.std.proofs.Common.{◌≡◌}
use Rattle.std.specs.Prelude.{not, filter}
use Rattle.std.specs.Ordering.{is_lt}
use Rattle.std.specs.FinMap as finmap
use Rattle.lock_name.specs.Locks.{resource_cmp}
use Rattle.lock_trie.proofs.Conflicting.{front_other}
use Rattle.lock_trie.proofs.trie.LockTrie.blocked_below.Given as goal

abbrev pub invariant-loop-held : goal.invariant-loop-held
invariant-loop-held l = record {
  can : goal.iterator-loop-held.can_next l.held-iterator;
  finite : goal.iterator-loop-held.is_finite l.held-iterator;
  rest : front_other l.name l.job l.held-iterator ≡ front_other l.name l.job (filter (λ e. not (is_lt (resource_cmp e.0 l.name))) (finmap.entries l.self));
}
