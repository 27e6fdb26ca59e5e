use Rattle.globals.proofs.Walks.{nothing_ahead}
use Rattle.globals.proofs.walk.walk_between.Goals as goal

pub invariant_of-result : goal.invariant_of-result
invariant_of-result g c = nothing_ahead _ _ c.new.ensures
