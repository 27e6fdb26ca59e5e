use Rattle.std.proofs.Common.{◌≡◌, length}
use Rattle.std.specs.Ordering.{nat_cmp}
use Rattle.std.specs.Cmp.Lexicographic.{slice_cmp}
use Rattle.key_codec.proofs.order.compare.Given as goal

abbrev pub invariant-loop-x : goal.invariant-loop-x
invariant-loop-x l = slice_cmp nat_cmp l.a l.b ≡ slice_cmp nat_cmp l.fn.first l.fn.second

abbrev pub decreases-loop-x : goal.decreases-loop-x
decreases-loop-x l = length l.a
