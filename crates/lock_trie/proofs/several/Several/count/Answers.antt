use Rattle.lock_trie.proofs.Holding.{count_now, small_now}
use Rattle.lock_trie.proofs.several.Several.count.Goals as goal

pub returns-in-Some-clause-count : goal.returns-in-Some-clause-count
returns-in-Some-clause-count c = count_now c.self.inside.list.items c.deref.result.now c.deref-in-Some.result.now c.args.self.now c.args.job c.in-Some.i c.deref.ensures c.deref-in-Some.ensures c.self.view_is c.in-Some.ensures.some c.self.invariant

pub returns-in-Some-clause-small : goal.returns-in-Some-clause-small
returns-in-Some-clause-small c =
    (small_now c.self.inside.list.items c.deref.result.now c.deref-in-Some.result.now c.args.self.now c.args.job c.in-Some.i c.deref.ensures c.deref-in-Some.ensures c.self.view_is c.in-Some.ensures.some c.self.invariant).1
