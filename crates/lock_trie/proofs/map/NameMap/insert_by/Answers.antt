use Rattle.lock_name.specs.laws.Counting.{resource_cmp-IsAntisymmetric}
use Rattle.lock_trie.proofs.Pairs.{map_put, sorted_put}
use Rattle.lock_trie.proofs.map.NameMap.insert_by.Goals as goal

pub invariant_of-self-2 : goal.invariant_of-self-2
invariant_of-self-2 g c = rw (c.in_ok-before.ensures.put resource_cmp-IsAntisymmetric) (sorted_put c.self.inside.tree.pairs c.args.name c.args.value c.self.invariant)

pub returns-clause-map : goal.returns-clause-map
returns-clause-map g c = rw ((c.in_ok-before.ensures.put resource_cmp-IsAntisymmetric), ← c.self.view_is) (map_put c.self.inside.tree.pairs c.args.name c.args.value c.self.invariant)
