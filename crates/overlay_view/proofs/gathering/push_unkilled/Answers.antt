use Rattle.std.proofs.Common.{◌∙◌}
use Rattle.overlay_view.proofs.Runs.{kept_one, kept_none}
use Rattle.overlay_view.proofs.gathering.push_unkilled.Goals as goal

pub returns-in-Some : goal.returns-in-Some
returns-in-Some c = let kills = c.in-Some.ensures in kept_none c.args.workspace.now.killed c.args.left.now (c.args.key.now, c.args.value.now) (kills.all c.args.key.now kills.above)

pub returns-in-None : goal.returns-in-None
returns-in-None c = c.push.ensures ∙ kept_one c.args.workspace.now.killed c.args.left.now (c.args.key.now, c.args.value.now) c.in-None.ensures
