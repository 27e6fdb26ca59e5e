use Rattle.std.proofs.Common.{sym}
use Rattle.workspace.proofs.writes.Workspace.is_killed.Goals as goal

pub returns-in-Some : goal.returns-in-Some
returns-in-Some c = sym (c.in-Some.ensures.all c.args.key.now c.in-Some.ensures.above)

pub returns-in-None : goal.returns-in-None
returns-in-None c = sym c.in-None.ensures
