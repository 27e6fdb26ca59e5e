use Rattle.std.proofs.Common.{ap, ◌∙◌}
use Rattle.globals.specs.Entries.{nearest_entry}
use Rattle.std.specs.Prelude.{false}
use Rattle.globals.specs.Cuts.{stands_before}
use Rattle.key_map.proofs.Pairs.{last_in}
use Rattle.key_map.proofs.map.KeyMap.last_before.Goals as goal

pub returns : goal.returns
returns g c =
    c.last_before.ensures.found ∙ last_in (stands_before c.args.cut) c.self.inside.tree.pairs c.self.invariant ∙ ap (nearest_entry false (stands_before c.args.cut)) c.self.view_is
