use Rattle.std.proofs.Common.{sym, ap, ◌∙◌}
use Rattle.std.specs.FinMap as finmap
use Rattle.lock_trie.proofs.Pairs.{map_get}
use Rattle.lock_trie.proofs.map.NameMap.look_up.Goals as goal

pub returns : goal.returns
returns g c =
    c.look_up.ensures.found ∙ sym (map_get c.self.inside.tree.pairs c.args.name.now c.self.invariant) ∙ ap (λ m. finmap.get m c.args.name.now) c.self.view_is
