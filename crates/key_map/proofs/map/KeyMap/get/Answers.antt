use Rattle.std.proofs.Common.{sym, ap, ◌∙◌}
use Rattle.std.specs.FinMap as finmap
use Rattle.key_map.proofs.Pairs.{map_get}
use Rattle.key_map.proofs.map.KeyMap.get.Goals as goal

pub returns : goal.returns
returns g c =
    c.get.ensures.found ∙ sym (map_get c.self.inside.tree.pairs c.args.key.now c.self.invariant) ∙ ap (λ m. finmap.get m c.args.key.now) c.self.view_is
