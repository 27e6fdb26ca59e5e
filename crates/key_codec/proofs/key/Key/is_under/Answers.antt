use Rattle.key_codec.proofs.Children.{under_tested}
use Rattle.key_codec.proofs.key.Key.is_under.Goals as goal

pub returns : goal.returns
returns c = under_tested c.args.root.now c.args.self.now c.behind.result c.is_some.result c.behind.ensures.root_form c.behind.ensures.form c.behind.ensures.some c.behind.ensures.none c.is_some.ensures
