use Rattle.std.proofs.Common.{◌∙◌, ap, sym}
use Rattle.std.specs.FinMap.Entries as entries
use Rattle.steady_map.specs.Shown.{joined, Seen}
use Rattle.steady_map.proofs.Shows.{find_shown}
use Rattle.steady_map.proofs.map.SteadyMap.misses_beside.Goals as goal

pub returns : goal.returns
returns g c = record { missed = λ t. (ap (entries.find g.K.Ord.cmp c.args.key.now) (sym (ap (λ (m : Seen g.row.K.Denot g.row.V.Denot). m.pairs) c.self.view_is)) ∙ find_shown g.K.Ord.cmp g.met.K.Ord.total c.args.key.now c.self.inside.tree.pairs c.len-count.ensures.sorted) ∙ ap joined (c.misses_beside.ensures.missed t) }
