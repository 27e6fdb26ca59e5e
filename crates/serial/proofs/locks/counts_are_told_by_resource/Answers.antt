use Rattle.lock_name.specs.laws.Counting.{counts_tell}
use Rattle.serial.proofs.locks.counts_are_told_by_resource.Goals as goal

pub returns : goal.returns
returns c = counts_tell
