use Rattle.std.proofs.Common.{◌≡◌, subst, true}
use Rattle.std.specs.Prelude.{Option, MatchOption, None, Some}
use Rattle.globals.specs.declared.cut.Cut.{Cut}
use Rattle.globals.specs.Cuts.{up_to}
use Rattle.globals.specs.Entries.{nearest_entry}
use Rattle.overlay_view.specs.Merging.{is_left}
use Rattle.overlay_view.proofs.Ends.{looked_to}
use Rattle.overlay_view.proofs.view.OverlayOrderedView.next.Goals as goal

pub returns : goal.returns
returns g c =
    let w = c.args.self.now.workspace.now in
    let m = g.V.OrderedView.content c.args.self.now.view.now in
    looked_to c.args.end c.args.cut w m c.written.result.now c.next-own.result c.first_left-below.result c.nearer.result c.written.ensures
    c.next-own.ensures
    (subst (λ (z : Option Cut). MatchOption c.first_left-below.result (nearest_entry true (is_left true c.args.cut w.killed) (up_to z m) ≡ None) (λ e. nearest_entry true (is_left true c.args.cut w.killed) (up_to z m) ≡ Some (e.0.now, e.1.now))) c.end_by.ensures c.first_left-below.ensures)
    c.nearer.ensures
