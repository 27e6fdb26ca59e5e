use Rattle.std.proofs.Common.{◌∙◌}
use Rattle.overlay_view.proofs.Runs.{behind_killed, killed_further}
use Rattle.overlay_view.proofs.gathering.behind.Goals as goal

pub returns-in-Some : goal.returns-in-Some
returns-in-Some c =
    let kills = c.in-Some.ensures in
    record {
      further = λ y h. c.taken_to.ensures y ∙ killed_further c.args.workspace.now.killed c.args.key.now c.in-Some.killed.now c.in-Some.extent kills y h;
      same = λ y free. c.taken_to.ensures y ∙ behind_killed c.args.workspace.now.killed c.args.key.now c.in-Some.killed.now c.in-Some.extent kills y free;
    }
