use Rattle.serial.specs.laws.Good.{right_at_commit}
use Rattle.serial.proofs.laws.transactions_are_right_at_their_commit.Goals as goal

pub returns : goal.returns
returns c t units begun right none = right_at_commit t units (record { begun = begun; right = right }) none
