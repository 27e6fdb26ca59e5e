use Rattle.std.proofs.Common.{refl, sym, ap, ◌∙◌, Some, None}
use Rattle.std.specs.Option.{option_map}
use Rattle.globals.specs.Cuts.{up_to}
use Rattle.globals.specs.declared.cut.Cut.TheVariants.{Past}
use Rattle.globals.specs.laws.Ends.{descendants_to}
use Rattle.globals.specs.laws.Seeks.{data_found}
use Rattle.globals.proofs.node.has_descendants.Goals as goal

pub returns-in-Some : goal.returns-in-Some
returns-in-Some g c =
    let m = g.V.OrderedView.content c.args.view.now in
    let found = data_found c.args.root.now (up_to (Some (Past c.args.root)) m) (Some c.in-Some.key.now) (sym (ap (option_map (λ e. e.0)) c.in-Some.ensures)) in
    c.is_below.ensures ∙ sym found ∙ descendants_to c.args.root.now (Past c.args.root) m (λ x. refl)

pub returns-in-None : goal.returns-in-None
returns-in-None g c =
    let m = g.V.OrderedView.content c.args.view.now in
    let found = data_found c.args.root.now (up_to (Some (Past c.args.root)) m) None (sym (ap (option_map (λ e. e.0)) c.in-None.ensures)) in
    sym found ∙ descendants_to c.args.root.now (Past c.args.root) m (λ x. refl)
