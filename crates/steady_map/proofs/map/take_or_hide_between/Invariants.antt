use Rattle.std.proofs.Common.{◌≡◌, not, length}
use Rattle.std.specs.List.{filter}
use Rattle.btree.specs.Order.{Each}
use Rattle.btree.specs.Parts.{IsSure}
use Rattle.steady_map.specs.Shown.{is_between}
use Rattle.steady_map.proofs.map.take_or_hide_between.Given as goal

abbrev pub invariant-run : goal.invariant-run
invariant-run g l = record {
  kept : filter (λ e. not (is_between (g.P.Point.before l.from) (g.Q.Point.before l.to) e.0)) l.tree.pairs ≡ filter (λ e. not (is_between (g.P.Point.before l.from) (g.Q.Point.before l.to) e.0)) l.initial.tree.pairs;
  sure : Each (λ e. IsSure g.K.Ord.cmp g.K.Clone.is_clone g.K.Clone.is_infallible e.0) l.initial.tree.pairs → Each (λ e. IsSure g.K.Ord.cmp g.K.Clone.is_clone g.K.Clone.is_infallible e.0) l.tree.pairs;
}

abbrev pub decreases-run : goal.decreases-run
decreases-run g l = length l.tree.pairs
