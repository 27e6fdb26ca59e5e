use Rattle.std.proofs.Common.{subst}
use Rattle.lock_trie.specs.Held.{AreHeld}
use Rattle.lock_trie.proofs.Conflicting.{held_above, held_neither}
use Rattle.lock_trie.proofs.trie.LockTrie.blocked_above.Goals as goal

pub returns-clause-some : goal.returns-clause-some
returns-clause-some c e = held_above c.args.self.now c.args.job c.args.name.now (subst AreHeld c.self.view_is c.self.invariant.0) (c.is_blocked_above.ensures.some e)

pub returns-clause-none : goal.returns-clause-none
returns-clause-none c e below = held_neither c.args.self.now c.args.job c.args.name.now below (c.is_blocked_above.ensures.none e)
