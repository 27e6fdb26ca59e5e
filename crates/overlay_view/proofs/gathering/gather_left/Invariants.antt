use Rattle.std.proofs.Common.{◌≡◌, length}
use Rattle.globals.specs.Cuts.{entries_from, up_to}
use Rattle.overlay_view.specs.Merging.{without_killed}
use Rattle.overlay_view.proofs.gathering.gather_left.Given as goal

abbrev pub invariant-loop-last : goal.invariant-loop-last
invariant-loop-last g l = without_killed l.workspace.killed (entries_from l.from (up_to l.end (g.V.OrderedView.content l.view))) ≡ without_killed l.workspace.killed (entries_from l.fn.cut (up_to l.end (g.V.OrderedView.content l.view)))

abbrev pub decreases-loop-last : goal.decreases-loop-last
decreases-loop-last g l = length (entries_from l.from (up_to l.end (g.V.OrderedView.content l.view)))
