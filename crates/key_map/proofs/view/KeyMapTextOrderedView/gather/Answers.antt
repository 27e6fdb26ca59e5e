use Rattle.std.proofs.Common.{ap, subst, ◌∙◌}
use Rattle.globals.specs.Cuts.{front_to, IsRun}
use Rattle.globals.specs.laws.Ends.{front_between}
use Rattle.key_map.proofs.view.KeyMapTextOrderedView.gather.Goals as goal

pub returns : goal.returns
returns c =
    subst (IsRun c.args.most c.first_nodes.result) (ap (front_to c.args.end) c.walk_from.ensures ∙ front_between c.args.cut c.args.end c.args.self.now) c.first_nodes.ensures
