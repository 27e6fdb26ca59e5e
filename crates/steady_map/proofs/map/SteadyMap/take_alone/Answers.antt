use Rattle.std.proofs.Common.{ap, ◌∙◌}
use Rattle.steady_map.specs.Shown.{shown, others, Seen}
use Rattle.steady_map.proofs.Shows.{sorted_shown}
use Rattle.steady_map.proofs.Alones.{length_alone}
use Rattle.steady_map.proofs.map.SteadyMap.take_alone.Goals as goal

pub invariant_of-self : goal.invariant_of-self
invariant_of-self g c =
    let took = c.take_from_leaf-taken.ensures in
    length_alone g.K.Ord.cmp g.met.K.Ord.total c.args.key.now (shown c.self.inside.tree.pairs) (shown c.take_from_leaf-taken.new.tree.pairs) c.take_from_leaf-taken.result c.self.inside.len c.count.result (sorted_shown g.K.Ord.cmp c.self.inside.tree.pairs c.len-count.ensures.sorted) c.self.invariant c.count.ensures took.value took.pairs took.missed

pub returns-clause-others : goal.returns-clause-others
returns-clause-others g c = c.take_from_leaf-taken.ensures.others ∙ ap (others g.K.Ord.cmp c.args.key.now) (ap (λ (m : Seen g.row.K.Denot g.row.V.Denot). m.hidden) c.self.view_is)
