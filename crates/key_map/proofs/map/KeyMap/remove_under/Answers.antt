use Rattle.std.proofs.Common.{◌∙◌}
use Rattle.std.specs.Prelude.{not}
use Rattle.std.specs.FinMap as finmap
use Rattle.key_map.specs.laws.Removal.{between_under}
use Rattle.key_map.proofs.map.KeyMap.remove_under.Goals as goal

pub returns : goal.returns
returns g c = c.remove_from.ensures ∙ (λ i. finmap.retain_keys c.args.self.now (λ x. not (between_under c.args.root.now x i)))
