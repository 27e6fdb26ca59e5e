use Rattle.std.proofs.Common.{◌≡◌, ◌≤◌}
use Rattle.std.specs.Vec.Iter.{into_iter_items}
use Rattle.collector.proofs.TurnLemmas.{Stands}
use Rattle.collector.proofs.turning.visit_each.Given as goal

abbrev pub invariant-loop-key : goal.invariant-loop-key
invariant-loop-key l = record {
  can_next : goal.iterator-loop-key.can_next l.key-iterator;
  is_finite : goal.iterator-loop-key.is_finite l.key-iterator;
  stands : Stands l.horizon l.fn.keys.items l.initial.store.versions l.store.versions (into_iter_items l.key-iterator) l.dropped l.removed;
  horizon : l.horizon ≤ l.store.cut;
  present : l.store.present ≡ l.initial.store.present;
  cut : l.store.cut ≡ l.initial.store.cut;
  mark : l.store.mark ≡ l.initial.store.mark;
  spare : l.initial.store.spare ≤ l.store.spare;
}
