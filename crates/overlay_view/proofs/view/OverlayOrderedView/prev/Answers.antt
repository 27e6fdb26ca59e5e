use Rattle.std.proofs.Common.{◌≡◌, subst, false}
use Rattle.std.specs.Prelude.{Option, MatchOption, None, Some}
use Rattle.globals.specs.declared.cut.Cut.{Cut}
use Rattle.globals.specs.Cuts.{down_to}
use Rattle.globals.specs.Entries.{nearest_entry}
use Rattle.overlay_view.specs.Merging.{is_left}
use Rattle.overlay_view.proofs.Ends.{looked_down}
use Rattle.overlay_view.proofs.view.OverlayOrderedView.prev.Goals as goal

pub returns : goal.returns
returns g c =
    let w = c.args.self.now.workspace.now in
    let m = g.V.OrderedView.content c.args.self.now.view.now in
    looked_down c.args.floor c.args.cut w m c.written.result.now c.prev-own.result c.last_left-below.result c.nearer.result c.written.ensures
    c.prev-own.ensures
    (subst (λ (z : Option Cut). MatchOption c.last_left-below.result (nearest_entry false (is_left false c.args.cut w.killed) (down_to z m) ≡ None) (λ e. nearest_entry false (is_left false c.args.cut w.killed) (down_to z m) ≡ Some (e.0.now, e.1.now))) c.floor_by.ensures c.last_left-below.ensures)
    c.nearer.ensures
