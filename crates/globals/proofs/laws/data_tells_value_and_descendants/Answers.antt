use Rattle.globals.specs.laws.Telling.{data_tells}
use Rattle.globals.proofs.laws.data_tells_value_and_descendants.Goals as goal

pub returns : goal.returns
returns c = data_tells
