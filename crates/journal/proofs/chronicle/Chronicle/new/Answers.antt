use Rattle.journal.specs.Dropped.{joined}
use Rattle.journal.proofs.Moves.{new_keeps}
use Rattle.journal.proofs.chronicle.Chronicle.new.Goals as goal

pub invariant_of-result : goal.invariant_of-result
invariant_of-result c = new_keeps c.new.result c.new.ensures.number c.new.ensures.state c.new.ensures.tallies (joined c.new-2.result) c.new-3.result.units c.new-2.ensures c.new-3.ensures.units
