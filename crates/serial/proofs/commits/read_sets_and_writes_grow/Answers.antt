use Rattle.serial.specs.laws.Committing.{grows_by}
use Rattle.serial.proofs.commits.read_sets_and_writes_grow.Goals as goal

pub returns : goal.returns
returns c = grows_by
