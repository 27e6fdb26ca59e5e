use Rattle.std.proofs.Common.{◌≡◌, ◌+◌, ◌-◌, ◌≤◌, ◌^◌, min, length}
use Rattle.embedded.specs.Calls.{count_of}
use Rattle.embedded.proofs.statistics.count_nodes.Given as goal

-- what is counted and what is left are together all nodes
abbrev pub invariant-nodes : goal.invariant-nodes
invariant-nodes g l = record {
  steps : (goal.iterator-nodes g).can_next l._node-iterator × (goal.iterator-nodes g).is_finite l._node-iterator;
  counted : min (l.nodes + length l._node-iterator) (2 ^ 64 - 1) ≡ count_of (g.V.OrderedView.content l.view);
  low : l.nodes ≤ 2 ^ 64 - 1;
}
