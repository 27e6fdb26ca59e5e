use Rattle.serial.specs.laws.Levels.{begins}
use Rattle.serial.proofs.transactions.transactions_begin_now.Goals as goal

pub returns : goal.returns
returns c = begins
