use Rattle.std.proofs.Common.{◌≡◌, ◌++◌}
use Rattle.globals.specs.Cuts.{taken_of}
use Rattle.workspace.specs.Changes.{removed}
use Rattle.workspace.proofs.changes.push_removed.Given as goal

abbrev pub invariant-loop-key : goal.invariant-loop-key
invariant-loop-key g l = l.changes.items ++ removed l.written l.key-iterator ≡ l.initial.changes.items ++ removed l.written (taken_of l.fn.extent l.root (g.V.OrderedView.content l.view))
