use Rattle.globals.specs.laws.Changing.{kill_taken}
use Rattle.globals.proofs.laws.kill_takes_its_extent.Goals as goal

pub returns : goal.returns
returns c = kill_taken
