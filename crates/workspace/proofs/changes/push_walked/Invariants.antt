use Rattle.std.proofs.Common.{◌≡◌, ◌++◌}
use Rattle.std.specs.FinMap as finmap
use Rattle.workspace.specs.Changes.{set_changes}
use Rattle.workspace.proofs.changes.push_walked.Given as goal

abbrev pub invariant-loop-key : goal.invariant-loop-key
invariant-loop-key l = l.changes.items ++ set_changes l.key-iterator ≡ l.initial.changes.items ++ set_changes (finmap.entries l.written)
