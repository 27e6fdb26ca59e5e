use Rattle.std.proofs.Common.{◌≡◌, sym, ap, subst, ◌∙◌}
use Rattle.std.specs.Prelude.{IfSome}
use Rattle.std.specs.FinMap as finmap
use Rattle.steady_map.specs.Shown.{shown}
use Rattle.key_map.proofs.Pairs.{map_entries}
use Rattle.key_map.proofs.map.KeyMap.as_row.Goals as goal

pub returns : goal.returns
returns g c = record {
  row = subst (λ es. IfSome c.as_row.result (λ row. shown row.now ≡ es)) (sym (map_entries c.self.inside.tree.pairs c.self.invariant) ∙ ap finmap.entries c.self.view_is) c.as_row.ensures.row;
}
