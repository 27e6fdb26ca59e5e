use Rattle.serial.specs.laws.Committing.{commits_on}
use Rattle.serial.proofs.commits.commits_write_what_was_seen.Goals as goal

pub returns : goal.returns
returns c = commits_on
