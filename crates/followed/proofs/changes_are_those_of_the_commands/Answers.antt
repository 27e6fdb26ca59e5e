use Rattle.followed.specs.laws.Following.{changes_are_touched}
use Rattle.followed.proofs.changes_are_those_of_the_commands.Goals as goal

pub returns : goal.returns
returns c = changes_are_touched
