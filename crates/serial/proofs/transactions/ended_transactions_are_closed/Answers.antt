use Rattle.serial.specs.laws.Levels.{ends}
use Rattle.serial.proofs.transactions.ended_transactions_are_closed.Goals as goal

pub returns : goal.returns
returns c = ends
