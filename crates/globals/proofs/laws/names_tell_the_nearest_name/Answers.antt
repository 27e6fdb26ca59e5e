use Rattle.globals.specs.laws.Names.{names_tell}
use Rattle.globals.proofs.laws.names_tell_the_nearest_name.Goals as goal

pub returns : goal.returns
returns c = names_tell
