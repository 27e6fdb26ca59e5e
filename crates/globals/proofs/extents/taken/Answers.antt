use Rattle.std.proofs.Common.{◌∙◌}
use Rattle.globals.specs.laws.Taken.{taken_between}
use Rattle.globals.proofs.extents.taken.Goals as goal

pub returns : goal.returns
returns g c =
    c.walk_between.ensures ∙ taken_between c.args.extent c.args.root.now c.taken_from.result c.taken_to.result (g.V.OrderedView.content c.args.view.now) c.taken_from.ensures c.taken_to.ensures
