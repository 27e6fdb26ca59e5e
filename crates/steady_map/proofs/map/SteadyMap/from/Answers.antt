use Rattle.std.proofs.Common.{◌≡◌, ◌∙◌, true, not, ap, sym, subst, arith}
use Rattle.std.specs.List.{filter}
use Rattle.std.specs.FinMap.Entries.{is_sorted}
use Rattle.steady_map.specs.Shown.{shown, Seen}
use Rattle.steady_map.proofs.Shows.{sorted_kept, shown_filter}
use Rattle.steady_map.proofs.map.SteadyMap.from.Goals as goal

pub over-requires : goal.over-requires
over-requires g c = (omega arith, (omega arith, subst (λ es. is_sorted g.K.Ord.cmp es ≡ true) (sym c.from.ensures) (sorted_kept g.K.Ord.cmp (λ e. not (g.P.Point.before c.args.point.now e.0)) c.self.inside.tree.pairs c.len-count.ensures.sorted)))

pub returns : goal.returns
returns g c = c.over.ensures ∙ ap shown c.from.ensures ∙ shown_filter (λ k. not (g.P.Point.before c.args.point.now k)) c.self.inside.tree.pairs ∙ ap (filter (λ e. not (g.P.Point.before c.args.point.now e.0))) (ap (λ (m : Seen g.row.K.Denot g.row.V.Denot). m.pairs) c.self.view_is)
