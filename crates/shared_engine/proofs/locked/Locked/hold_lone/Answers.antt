use Rattle.std.proofs.Common.{ap, arith, length}
use Rattle.shared_engine.proofs.locked.Locked.hold_lone.Goals as goal

pub invariant_of-hold : goal.invariant_of-hold
invariant_of-hold c =
    let was = c.hold.invariant in
    let did = c.lone_or_known.ensures in
    (omega (arith, was.0, did.room.0), (omega (arith, was.1.0, did.room.0, did.room.1, ap length did.left), did.answers))
