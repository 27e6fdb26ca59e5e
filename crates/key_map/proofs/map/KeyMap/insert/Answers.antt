use Rattle.std.proofs.Common.{sym, ap, ◌∙◌}
use Rattle.std.specs.FinMap as finmap
use Rattle.collation.specs.laws.Order.{ref_cmp-IsAntisymmetric}
use Rattle.key_map.proofs.Pairs.{map_get, map_put, sorted_put}
use Rattle.key_map.proofs.map.KeyMap.insert.Goals as goal

pub invariant_of-self-2 : goal.invariant_of-self-2
invariant_of-self-2 g c = rw (c.in_ok-before.ensures.put ref_cmp-IsAntisymmetric) (sorted_put c.self.inside.tree.pairs c.args.key c.args.value c.self.invariant)

pub returns-clause-before : goal.returns-clause-before
returns-clause-before g c =
    c.in_ok-before.ensures.before ∙ sym (map_get c.self.inside.tree.pairs c.args.key c.self.invariant) ∙ ap (λ m. finmap.get m c.args.key) c.self.view_is

pub returns-clause-map : goal.returns-clause-map
returns-clause-map g c = rw (c.in_ok-before.ensures.put ref_cmp-IsAntisymmetric, ← c.self.view_is) (map_put c.self.inside.tree.pairs c.args.key c.args.value c.self.invariant)
