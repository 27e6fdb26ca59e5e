use Rattle.lock_trie.proofs.Aboves.{none_before, same_above}
use Rattle.lock_trie.proofs.map.NameMap.last_before.Goals as goal

pub returns-in-Some-clause-some : goal.returns-in-Some-clause-some
returns-in-Some-clause-some g c = same_above c.self.inside.tree.pairs c.args.self.now c.args.name.now c.self.invariant c.self.view_is (c.in-Some.before.now, c.in-Some.field-0-1.now) (rw c.in-Some.is at c.last_before.ensures.found)

pub returns-in-None-clause-none : goal.returns-in-None-clause-none
returns-in-None-clause-none g c = none_before c.self.inside.tree.pairs c.args.self.now c.args.name.now c.self.invariant c.self.view_is (rw c.in-None.is at c.last_before.ensures.found)
