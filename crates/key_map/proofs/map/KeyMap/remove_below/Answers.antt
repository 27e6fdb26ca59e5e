use Rattle.std.proofs.Common.{◌∙◌}
use Rattle.std.specs.FinMap as finmap
use Rattle.key_map.specs.laws.Removal.{between_below}
use Rattle.key_map.proofs.map.KeyMap.remove_below.Goals as goal

pub returns : goal.returns
returns g c = c.remove_from.ensures ∙ (λ i. finmap.retain_keys c.args.self.now (λ x. between_below c.args.root.now x i))
