use Rattle.std.proofs.Common.{sym, ap, ◌∙◌}
use Rattle.std.specs.FinMap as finmap
use Rattle.std.specs.Prelude.{not}
use Rattle.std.specs.List.{find}
use Rattle.globals.specs.Cuts.{stands_before}
use Rattle.key_map.proofs.Pairs.{map_entries}
use Rattle.key_map.proofs.map.KeyMap.first_from.Goals as goal

pub returns : goal.returns
returns g c =
    c.first_from.ensures.found ∙ ap (find (λ e. not (stands_before c.args.cut e.0))) (sym (map_entries c.self.inside.tree.pairs c.self.invariant) ∙ ap finmap.entries c.self.view_is)
