use Rattle.stretches.proofs.Free.{free_nowhere}
use Rattle.stretches.proofs.scouting.low_edge.Goals as goal

pub returns-then-have : goal.returns-then-have
returns-then-have g c = free_nowhere c.args.from (g.V.OrderedView.content c.args.view.now)
