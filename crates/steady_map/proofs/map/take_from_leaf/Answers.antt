use Rattle.std.proofs.Common.{ap}
use Rattle.btree.specs.Tree.{Content}
use Rattle.std.specs.Prelude.{Option}
use Rattle.steady_map.proofs.Alones.{value_alone, pairs_alone, none_before_alone, missed_alone, others_alone}
use Rattle.steady_map.proofs.map.take_from_leaf.Goals as goal

pub returns-clause-value : goal.returns-clause-value
returns-clause-value g c = value_alone g.K.Ord.cmp g.met.K.Ord.total c.args.key.now (g.P.Point.before c.args.past.now) c.args.tree.now.pairs c.take_alone.new.self.pairs c.take_alone.result c.joined.result c.joined.ensures c.requires.sorted c.take_alone.ensures.value

pub returns-clause-pairs : goal.returns-clause-pairs
returns-clause-pairs g c = pairs_alone g.K.Ord.cmp g.met.K.Ord.total c.args.key.now (g.P.Point.before c.args.past.now) c.args.tree.now.pairs c.take_alone.new.self.pairs c.take_alone.result c.joined.result c.joined.ensures c.take_alone.ensures.pairs

pub returns-clause-alone : goal.returns-clause-alone
returns-clause-alone g c = none_before_alone g.K.Ord.cmp g.met.K.Ord.total c.args.key.now (g.P.Point.before c.args.past.now) c.args.tree.now.pairs c.take_alone.new.self.pairs c.take_alone.result c.joined.result c.joined.ensures c.take_alone.ensures.alone

pub returns-clause-missed : goal.returns-clause-missed
returns-clause-missed g c = missed_alone g.K.Ord.cmp g.met.K.Ord.total c.args.key.now (g.P.Point.before c.args.past.now) c.args.tree.now.pairs c.take_alone.new.self.pairs c.take_alone.result c.joined.result c.joined.ensures c.requires.sorted c.take_alone.ensures.value c.take_alone.ensures.pairs (λ none. ap (λ (t : Content g.row.K.Denot (Option g.row.V.Denot)). t.pairs) (c.take_alone.ensures.missed none))

pub returns-clause-others : goal.returns-clause-others
returns-clause-others g c = others_alone g.K.Ord.cmp g.met.K.Ord.total c.args.key.now (g.P.Point.before c.args.past.now) c.args.tree.now.pairs c.take_alone.new.self.pairs c.take_alone.result c.joined.result c.joined.ensures c.take_alone.ensures.pairs (λ none. ap (λ (t : Content g.row.K.Denot (Option g.row.V.Denot)). t.pairs) (c.take_alone.ensures.missed none))
