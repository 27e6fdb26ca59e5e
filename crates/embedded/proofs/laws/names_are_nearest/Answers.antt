use Rattle.embedded.specs.laws.Nearest.{names_tell}
use Rattle.embedded.proofs.laws.names_are_nearest.Goals as goal

pub returns : goal.returns
returns c = names_tell
