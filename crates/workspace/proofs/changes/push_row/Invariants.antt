use Rattle.std.proofs.Common.{◌≡◌, ◌++◌, drop}
use Rattle.workspace.specs.Changes.{set_changes}
use Rattle.steady_map.specs.Shown.{shown}
use Rattle.workspace.proofs.changes.push_row.Given as goal

abbrev pub invariant-loop-key : goal.invariant-loop-key
invariant-loop-key l = l.changes.items ++ set_changes (shown (drop l.key-index l.row)) ≡ l.initial.changes.items ++ set_changes (shown l.row)
