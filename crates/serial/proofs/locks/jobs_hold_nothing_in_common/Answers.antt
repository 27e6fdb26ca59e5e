use Rattle.serial.specs.laws.Excluding.{jobs_are_apart}
use Rattle.serial.proofs.locks.jobs_hold_nothing_in_common.Goals as goal

pub returns : goal.returns
returns c = jobs_are_apart
