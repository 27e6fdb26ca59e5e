use Rattle.serial.specs.laws.Locking.{conflict_tells}
use Rattle.serial.proofs.locks.names_conflict_where_one_begins_the_other.Goals as goal

pub returns : goal.returns
returns c = conflict_tells
