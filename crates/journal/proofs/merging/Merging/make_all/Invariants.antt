use Rattle.std.specs.Vec.Iter.{into_iter_items}
use Rattle.journal.proofs.Rising.{Making}
use Rattle.journal.proofs.merging.Merging.make_all.Given as goal

abbrev pub invariant-changes : goal.invariant-changes
invariant-changes l = record {
  can_next : goal.iterator-changes.can_next l.key-iterator;
  is_finite : goal.iterator-changes.is_finite l.key-iterator;
  making : Making l.self (into_iter_items l.key-iterator) l.fn.changes.items l.fn.self.left;
}
