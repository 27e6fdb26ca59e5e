use Rattle.stretches.specs.Empty.{PartAlike}
use Rattle.stretches.proofs.skipping.prev_past.Given as goal

-- no member stands between the two cuts
abbrev pub invariant-loop : goal.invariant-loop
invariant-loop g l = PartAlike l.fn.cut l.to (g.V.OrderedView.content l.view)
