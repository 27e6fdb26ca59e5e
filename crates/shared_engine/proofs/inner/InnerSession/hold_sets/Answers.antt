use Rattle.std.proofs.Common.{ap, sym, subst, arith, length}
use Rattle.std.specs.List.{All}
use Rattle.shared_engine.specs.Holds.{Lines, IsSet}
use Rattle.shared_engine.proofs.inner.InnerSession.hold_sets.Goals as goal

pub invariant_of-hold : goal.invariant_of-hold
invariant_of-hold c =
    let was = c.hold.invariant in
    let did = c.set_lines.ensures in
    (omega (arith, was.0, did.room.0), (omega (arith, was.1.0, did.room.0, did.room.1, ap length did.left), did.answers))

pub set_lines-requires-clause-sets : goal.set_lines-requires-clause-sets
set_lines-requires-clause-sets c = subst (λ (l : Lines). All IsSet l.commands) (sym c.hold.view_is) c.requires.sets
