use Rattle.stretches.proofs.Free.{free_part}
use Rattle.stretches.proofs.scouting.narrowed.Goals as goal

pub returns-in-Ok : goal.returns-in-Ok
returns-in-Ok g c =
    free_part c.args.low c.args.middle c.args.high c.begin_of.result c.end_of.result c.in-Ok.stretch (g.V.OrderedView.content c.args.view.now)
    c.requires.before c.requires.behind c.begin_of.ensures c.end_of.ensures c.in-Ok.ensures
