use Rattle.std.proofs.Common.{refl}
use Rattle.std.specs.Prelude.{Some}
use Rattle.globals.specs.declared.cut.Cut.TheVariants.{Before, Past}
use Rattle.stretches.proofs.Free.{free_to_found, free_within}
use Rattle.stretches.proofs.scouting.edge_below.Goals as goal

pub returns-in-Some : goal.returns-in-Some
returns-in-Some g c =
    free_to_found c.args.cut (Before c.in-Some.first) (Some (Past c.args.root)) (g.V.OrderedView.content c.args.view.now) (c.in-Some.first.now, c.in-Some.field-0-1.now) c.in-Some.ensures (λ x. refl)

pub returns-in-None : goal.returns-in-None
returns-in-None g c = free_within c.args.cut (Past c.args.root) (g.V.OrderedView.content c.args.view.now) c.in-None.ensures
