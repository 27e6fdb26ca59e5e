use Rattle.lock_name.specs.laws.Blocking.{blocked_tells}
use Rattle.serial.proofs.locks.blocked_where_another_job_holds.Goals as goal

pub returns : goal.returns
returns c = blocked_tells
