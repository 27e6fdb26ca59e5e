use Rattle.std.proofs.Common.{◌≡◌, ◌++◌}
use Rattle.std.specs.FinMap as finmap
use Rattle.workspace.specs.Changes.{removed_by}
use Rattle.workspace.proofs.changes.push_each_removed.Given as goal

abbrev pub invariant-loop-root : goal.invariant-loop-root
invariant-loop-root g l = l.changes.items ++ removed_by l.written (g.V.OrderedView.content l.view) l.root-iterator ≡ l.initial.changes.items ++ removed_by l.written (g.V.OrderedView.content l.view) (finmap.entries l.killed)
