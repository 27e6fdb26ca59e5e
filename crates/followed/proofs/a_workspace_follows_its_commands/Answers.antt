use Rattle.followed.specs.laws.Following.{holds_always}
use Rattle.followed.proofs.a_workspace_follows_its_commands.Goals as goal

pub returns : goal.returns
returns c = holds_always
