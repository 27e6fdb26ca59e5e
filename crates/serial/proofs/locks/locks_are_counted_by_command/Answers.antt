use Rattle.serial.specs.laws.Locking.{lock_tells}
use Rattle.serial.proofs.locks.locks_are_counted_by_command.Goals as goal

pub returns : goal.returns
returns c = lock_tells
