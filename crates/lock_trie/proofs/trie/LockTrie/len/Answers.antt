use Rattle.std.proofs.Common.{subst}
use Rattle.lock_trie.specs.Held.{AreHeld}
use Rattle.lock_trie.proofs.trie.LockTrie.len.Goals as goal

pub returns-clause-held : goal.returns-clause-held
returns-clause-held c = subst AreHeld c.self.view_is c.self.invariant.0
