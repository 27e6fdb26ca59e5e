use Rattle.std.proofs.Common.{ℕ, ◌≡◌, ◌<◌, false}
use Rattle.lock_trie.specs.Names.{beginning}
use Rattle.lock_trie.specs.Holders.{has_other}
use Rattle.lock_trie.specs.Held.{holders_of}
use Rattle.lock_trie.proofs.trie.LockTrie.is_blocked_above.Given as goal

abbrev pub invariant-loop-i : goal.invariant-loop-i
invariant-loop-i l = (k : ℕ) → k < l.i → has_other (holders_of l.self (beginning l.name k)) l.job ≡ false
