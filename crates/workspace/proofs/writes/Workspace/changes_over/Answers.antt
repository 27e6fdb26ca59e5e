use Rattle.workspace.specs.laws.Changing.{listed}
use Rattle.workspace.proofs.writes.Workspace.changes_over.Goals as goal

pub returns : goal.returns
returns g c =
    listed c.args.self.now (g.V.OrderedView.content c.args.view.now) c.self.inside.written c.self.inside.killed c.in_ok-changes.changes.items c.self.view_is c.self.invariant c.in_ok-changes.ensures
