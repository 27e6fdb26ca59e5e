use Rattle.overlay_view.proofs.Ends.{gathered}
use Rattle.overlay_view.proofs.view.OverlayOrderedView.gather.Goals as goal

pub returns : goal.returns
returns g c =
    let w = c.args.self.now.workspace.now in
    let m = g.V.OrderedView.content c.args.self.now.view.now in
    gathered c.args.cut c.args.end c.end_after.result w m c.args.most c.written.result.now c.gather-own.result c.gather_left-below.result c.join.result c.written.ensures
    c.gather-own.ensures c.end_after.ensures c.gather_left-below.ensures c.join.ensures
