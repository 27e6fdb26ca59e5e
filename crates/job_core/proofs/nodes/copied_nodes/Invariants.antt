use Rattle.std.proofs.Common.{◌≡◌, ◌++◌}
use Rattle.std.specs.FinMap as finmap
use Rattle.job_core.proofs.nodes.copied_nodes.Given as goal

-- with what is left it will be the whole
abbrev pub invariant-nodes : goal.invariant-nodes
invariant-nodes g l = record {
  all : l.nodes.items ++ l.key-iterator ≡ finmap.entries (g.V.OrderedView.content l.view);
}
