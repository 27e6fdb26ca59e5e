use Rattle.followed.specs.laws.Following.{holds_nothing}
use Rattle.followed.proofs.an_empty_workspace_holds_nothing.Goals as goal

pub returns : goal.returns
returns c = holds_nothing
