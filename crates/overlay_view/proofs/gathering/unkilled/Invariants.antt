use Rattle.std.proofs.Common.{◌≡◌, ◌≤◌, ◌++◌, length, drop}
use Rattle.overlay_view.specs.Merging.{without_killed}
use Rattle.overlay_view.proofs.gathering.unkilled.Given as goal

abbrev pub invariant-loop-index : goal.invariant-loop-index
invariant-loop-index l = record {
  all : l.left ++ without_killed l.workspace.killed (drop l.index l.found) ≡ without_killed l.workspace.killed l.found;
  few : length l.left ≤ l.index;
}
