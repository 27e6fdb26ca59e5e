use Rattle.serial.specs.laws.Growing.{histories_grow}
use Rattle.serial.proofs.interleaving.histories_grow_with_the_journal.Goals as goal

pub returns : goal.returns
returns c = histories_grow
