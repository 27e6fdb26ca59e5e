use Rattle.serial.specs.laws.Untouched.{untouched_by_unit}
use Rattle.serial.proofs.laws.untouched_references_keep_their_values.Goals as goal

pub returns : goal.returns
returns c = untouched_by_unit
