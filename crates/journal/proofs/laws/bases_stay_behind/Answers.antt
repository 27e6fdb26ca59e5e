use Rattle.journal.specs.laws.Checkpoints.{stays_behind, moves_on}
use Rattle.journal.proofs.laws.bases_stay_behind.Goals as goal

pub returns : goal.returns
returns c = record { steps = stays_behind; on = moves_on }
