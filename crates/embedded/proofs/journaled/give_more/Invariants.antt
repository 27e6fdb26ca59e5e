use Rattle.embedded.proofs.Given.{SoFar}
use Rattle.embedded.proofs.journaled.give_more.Given as goal

-- the lines of the units so far were given, and each of the rest has a number
abbrev pub invariant-units : goal.invariant-units
invariant-units l = record {
  steps : goal.iterator-units.can_next l.read-iterator × goal.iterator-units.is_finite l.read-iterator;
  so_far : SoFar l.fn.units l.read-iterator l.fn.place l.place l.fn.text.items l.text.items l.room;
}
