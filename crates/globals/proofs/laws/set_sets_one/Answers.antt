use Rattle.globals.specs.laws.Changing.{set_one}
use Rattle.globals.proofs.laws.set_sets_one.Goals as goal

pub returns : goal.returns
returns c = set_one
