use Rattle.serial.specs.laws.Locking.{grant_tells}
use Rattle.serial.proofs.locks.locks_are_granted_where_no_name_is_blocked.Goals as goal

pub returns : goal.returns
returns c = grant_tells
