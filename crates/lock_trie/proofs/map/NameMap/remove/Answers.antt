use Rattle.std.proofs.Common.{sym, ap, ◌∙◌}
use Rattle.std.specs.FinMap as finmap
use Rattle.lock_trie.proofs.Pairs.{map_get, map_without, sorted_without}
use Rattle.lock_trie.proofs.map.NameMap.remove.Goals as goal

pub invariant_of-self : goal.invariant_of-self
invariant_of-self g c = rw c.remove.ensures.pairs (sorted_without c.self.inside.tree.pairs c.args.name.now c.self.invariant)

pub returns-clause-value : goal.returns-clause-value
returns-clause-value g c =
    c.remove.ensures.value ∙ sym (map_get c.self.inside.tree.pairs c.args.name.now c.self.invariant) ∙ ap (λ m. finmap.get m c.args.name.now) c.self.view_is

pub returns-clause-map : goal.returns-clause-map
returns-clause-map g c = rw (c.remove.ensures.pairs, ← c.self.view_is) (map_without c.self.inside.tree.pairs c.args.name.now c.self.invariant)
