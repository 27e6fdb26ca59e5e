use Rattle.std.proofs.Common.{refl}
use Rattle.globals.specs.declared.cut.Cut.TheVariants.{Before}
use Rattle.stretches.proofs.Free.{free_from, free_to_end}
use Rattle.stretches.proofs.scouting.next_edge.Goals as goal

pub returns-in-Some : goal.returns-in-Some
returns-in-Some g c = free_from c.args.cut (Before c.in-Some.found) (g.V.OrderedView.content c.args.view.now) (c.in-Some.found.now, c.in-Some.field-0-1.now) c.in-Some.ensures (λ x. refl)

pub returns-in-None : goal.returns-in-None
returns-in-None g c = free_to_end c.args.cut c.args.last (g.V.OrderedView.content c.args.view.now) c.in-None.ensures
