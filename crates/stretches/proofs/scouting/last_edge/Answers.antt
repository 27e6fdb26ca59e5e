use Rattle.std.proofs.Common.{refl}
use Rattle.globals.specs.declared.cut.Cut.TheVariants.{Start, After}
use Rattle.stretches.proofs.Free.{free_before, free_from_start}
use Rattle.stretches.proofs.scouting.last_edge.Goals as goal

pub returns-in-Some : goal.returns-in-Some
returns-in-Some g c = free_before (After c.in-Some.found) c.args.cut (g.V.OrderedView.content c.args.view.now) (c.in-Some.found.now, c.in-Some.field-0-1.now) c.in-Some.ensures (λ x. refl)

pub returns-in-None : goal.returns-in-None
returns-in-None g c = free_from_start Start c.args.cut (g.V.OrderedView.content c.args.view.now) c.in-None.ensures
