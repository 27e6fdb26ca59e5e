use Rattle.journal.proofs.Moves.{none_sorted}
use Rattle.journal.proofs.base.Base.new.Goals as goal

pub invariant_of-result : goal.invariant_of-result
invariant_of-result c = none_sorted c.new.result.items c.new.ensures.items
