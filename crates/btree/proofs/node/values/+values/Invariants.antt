use Rattle.std.proofs.Common.{◌≡◌, ◌+◌, ◌*◌}
use Rattle.btree.specs.Rows.{height_of}
use Rattle.btree.specs.Values.{without_values}
use Rattle.btree.proofs.Values.{mapped}
use Rattle.btree.proofs.node.values.+values.Given as goal

abbrev pub decreases-empty_node : goal.decreases-empty_node
decreases-empty_node g l = 2 * l.node.now.height + 1

abbrev pub decreases-empty_kids : goal.decreases-empty_kids
decreases-empty_kids g l = 2 * height_of l.kids.now

abbrev pub invariant-empty_kids-loop-kid : goal.invariant-empty_kids-loop-kid
invariant-empty_kids-loop-kid g l = l.kids ≡ mapped (without_values g.V.Vacant.none (g.P.Point.before l.from) (g.Q.Point.before l.to)) l.kid-index l.initial.kids
