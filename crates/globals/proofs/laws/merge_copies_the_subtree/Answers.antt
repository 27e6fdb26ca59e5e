use Rattle.globals.specs.laws.Changing.{merge_subtree}
use Rattle.globals.proofs.laws.merge_copies_the_subtree.Goals as goal

pub returns : goal.returns
returns c = merge_subtree
