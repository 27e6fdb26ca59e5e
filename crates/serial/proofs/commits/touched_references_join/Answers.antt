use Rattle.serial.specs.laws.Committing.{touched_joins}
use Rattle.serial.proofs.commits.touched_references_join.Goals as goal

pub returns : goal.returns
returns c = touched_joins
