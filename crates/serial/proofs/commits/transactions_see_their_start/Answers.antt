use Rattle.serial.specs.laws.Committing.{sees_its_start}
use Rattle.serial.proofs.commits.transactions_see_their_start.Goals as goal

pub returns : goal.returns
returns c = sees_its_start
