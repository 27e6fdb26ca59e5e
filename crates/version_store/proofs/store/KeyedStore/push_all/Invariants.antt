use Rattle.std.proofs.Common.{◌≡◌, ◌+◌, ◌≤◌, length}
use Rattle.std.specs.Vec.Iter.{into_iter_items}
use Rattle.collation.specs.Changes.{AreOnce}
use Rattle.version_store.specs.Versions.{written, cells_over, ArePlaced, AreBelow}
use Rattle.version_store.proofs.store.KeyedStore.push_all.Given as goal

abbrev pub invariant-loop-key : goal.invariant-loop-key
invariant-loop-key l = record {
  can_next : goal.iterator-loop-key.can_next l.key-iterator;
  is_finite : goal.iterator-loop-key.is_finite l.key-iterator;
  placed : ArePlaced l.self.versions (into_iter_items l.key-iterator);
  apart : AreOnce (into_iter_items l.key-iterator);
  newest : AreBelow l.stamp l.self.versions (into_iter_items l.key-iterator);
  versions : written l.stamp (into_iter_items l.key-iterator) l.self.versions ≡ written l.stamp l.fn.changes.items l.initial.self.versions;
  present : l.self.present ≡ l.initial.self.present;
  cut : l.self.cut ≡ l.initial.self.cut;
  mark : l.self.mark ≡ l.initial.self.mark;
  room : length (into_iter_items l.key-iterator) ≤ l.self.spare;
  spare : l.initial.self.spare + length (into_iter_items l.key-iterator) ≤ l.self.spare + length l.fn.changes.items;
  cells : l.self.spare + cells_over (into_iter_items l.key-iterator) l.self.versions + cells_over l.fn.changes.items (written l.stamp l.fn.changes.items l.initial.self.versions)
      ≡ l.initial.self.spare + cells_over l.fn.changes.items l.initial.self.versions + cells_over (into_iter_items l.key-iterator) (written l.stamp l.fn.changes.items l.initial.self.versions);
}
