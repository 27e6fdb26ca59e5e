use Rattle.serial.specs.laws.Merging.{one_interleaving}
use Rattle.serial.proofs.interleaving.histories_are_one_run.Goals as goal

pub returns : goal.returns
returns c = one_interleaving
