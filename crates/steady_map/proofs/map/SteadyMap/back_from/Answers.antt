use Rattle.std.proofs.Common.{◌∙◌, reverse, ap}
use Rattle.std.specs.List.{filter}
use Rattle.steady_map.specs.Shown.{shown, Seen}
use Rattle.steady_map.proofs.Shows.{shown_reverse, shown_filter}
use Rattle.steady_map.proofs.map.SteadyMap.back_from.Goals as goal

pub returns : goal.returns
returns g c = c.over.ensures ∙ ap shown c.back_from.ensures ∙ shown_reverse (filter (λ e. g.P.Point.before c.args.point.now e.0) c.self.inside.tree.pairs) ∙ ap reverse (shown_filter (g.P.Point.before c.args.point.now) c.self.inside.tree.pairs ∙ ap (filter (λ e. g.P.Point.before c.args.point.now e.0)) (ap (λ (m : Seen g.row.K.Denot g.row.V.Denot). m.pairs) c.self.view_is))
