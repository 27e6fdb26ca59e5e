use Rattle.stretches.proofs.Free.{free_nowhere}
use Rattle.stretches.proofs.scouting.high_edge.Goals as goal

pub returns-then-have : goal.returns-then-have
returns-then-have g c = free_nowhere c.args.to (g.V.OrderedView.content c.args.view.now)
