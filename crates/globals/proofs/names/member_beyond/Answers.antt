use Rattle.collation.specs.Answers.{is_forward}
use Rattle.globals.specs.laws.Names.{name_found}
use Rattle.globals.proofs.names.member_beyond.Goals as goal

pub returns : goal.returns
returns g c = λ name is.
    name_found (is_forward c.args.direction) name (g.V.OrderedView.content c.args.view.now) c.names_from.result _ (c.names_from.ensures name is) c.key_at.ensures
