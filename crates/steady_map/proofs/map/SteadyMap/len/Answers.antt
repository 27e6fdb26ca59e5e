use Rattle.std.proofs.Common.{◌≡◌, true, ap, subst}
use Rattle.std.specs.FinMap.Entries.{is_sorted}
use Rattle.steady_map.specs.Shown.{Seen}
use Rattle.steady_map.proofs.Shows.{sorted_shown}
use Rattle.steady_map.proofs.map.SteadyMap.len.Goals as goal

pub returns-clause-sorted : goal.returns-clause-sorted
returns-clause-sorted g c = subst (λ es. is_sorted g.K.Ord.cmp es ≡ true) (ap (λ (m : Seen g.row.K.Denot g.row.V.Denot). m.pairs) c.self.view_is) (sorted_shown g.K.Ord.cmp c.self.inside.tree.pairs c.len-count.ensures.sorted)
