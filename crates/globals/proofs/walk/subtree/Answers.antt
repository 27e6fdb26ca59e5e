use Rattle.std.proofs.Common.{refl, ◌∙◌}
use Rattle.globals.specs.declared.cut.Cut.TheVariants.{Before, Past}
use Rattle.globals.specs.laws.Ends.{subtree_between}
use Rattle.globals.proofs.walk.subtree.Goals as goal

pub returns : goal.returns
returns g c = c.walk_between.ensures ∙ subtree_between c.args.root.now (Before c.args.root) (Past c.args.root) (g.V.OrderedView.content c.args.view.now) (λ x. refl) (λ x. refl)
