use Rattle.std.proofs.Common.{◌≡◌}
use Rattle.btree.specs.Values.{emptied}
use Rattle.btree.proofs.Values.{mapped}
use Rattle.btree.proofs.node.values.empty_row.Given as goal

abbrev pub invariant-loop-pair : goal.invariant-loop-pair
invariant-loop-pair g l = l.row ≡ mapped (emptied g.V.Vacant.none (g.P.Point.before l.from) (g.Q.Point.before l.to)) l.pair-index l.initial.row
