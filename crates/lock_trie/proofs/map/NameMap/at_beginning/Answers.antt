use Rattle.std.proofs.Common.{ap, ◌∙◌}
use Rattle.std.specs.Ordering.{is_eq}
use Rattle.lock_trie.proofs.Beginnings.{at_found, at_other, at_end}
use Rattle.lock_trie.proofs.map.NameMap.at_beginning.Goals as goal

pub returns-then-is_eq : goal.returns-then-is_eq
returns-then-is_eq g c =
    at_found c.self.inside.tree.pairs c.args.self.now c.self.invariant c.self.view_is c.args.beginning.now c.in-Some.key.now c.in-Some.value.now c.is_eq.result (rw c.in-Some.is at c.first_from.ensures.found)
    (c.is_eq.ensures ∙ ap is_eq c.compare.ensures) c.if-is_eq.true

pub returns-else-is_eq : goal.returns-else-is_eq
returns-else-is_eq g c =
    at_other c.self.inside.tree.pairs c.args.self.now c.self.invariant c.self.view_is c.args.beginning.now c.in-Some.key.now c.in-Some.value.now c.is_eq.result (rw c.in-Some.is at c.first_from.ensures.found)
    (c.is_eq.ensures ∙ ap is_eq c.compare.ensures) c.if-is_eq.false

pub returns-in-None : goal.returns-in-None
returns-in-None g c = at_end c.self.inside.tree.pairs c.args.self.now c.self.invariant c.self.view_is c.args.beginning.now (rw c.in-None.is at c.first_from.ensures.found)
