use Rattle.std.proofs.Common.{◌≡◌, ◌≤◌, ◌+◌, ◌++◌, length}
use Rattle.std.specs.Prelude.{vec_capacity}
use Rattle.journal.proofs.merging.push_each.Given as goal

abbrev pub invariant-loop-node : goal.invariant-loop-node
invariant-loop-node l = record {
  all : l.nodes.items ++ l.waiting.items ≡ l.initial.nodes.items ++ l.initial.waiting.items;
  room : length l.nodes.items + length l.waiting.items ≤ vec_capacity l.nodes;
}

abbrev pub decreases-loop-node : goal.decreases-loop-node
decreases-loop-node l = length l.waiting.items
