use Rattle.journal.specs.Dropped.{joined}
use Rattle.journal.proofs.Moves.{adopted_keeps}
use Rattle.journal.proofs.chronicle.Chronicle.adopt.Goals as goal

pub invariant_of-result : goal.invariant_of-result
invariant_of-result c =
    adopted_keeps c.adopt.result c.args.number c.args.nodes.items (joined c.adopt-past.result) c.new.result.units c.adopt.ensures.number c.adopt.ensures.state c.adopt.ensures.tallies c.adopt-past.ensures c.new.ensures.units
    c.requires.nothing c.ranges.number.fits
