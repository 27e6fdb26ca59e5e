use Rattle.globals.specs.laws.Changing.{increment_one}
use Rattle.globals.proofs.laws.increment_sets_the_sum.Goals as goal

pub returns : goal.returns
returns c = increment_one
