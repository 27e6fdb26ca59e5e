use Rattle.globals.specs.laws.Telling.{below_so}
use Rattle.globals.proofs.laws.descendants_are_under.Goals as goal

pub returns : goal.returns
returns c = below_so
