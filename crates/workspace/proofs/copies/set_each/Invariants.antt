use Rattle.std.proofs.Common.{◌≡◌}
use Rattle.std.specs.Vec.Iter.{into_iter_items}
use Rattle.collation.specs.Answers.{set_all}
use Rattle.workspace.specs.Copies.{all_taken_back}
use Rattle.workspace.proofs.copies.set_each.Given as goal

abbrev pub invariant-loop-key : goal.invariant-loop-key
invariant-loop-key l = record {
  can_next : goal.iterator-loop-key.can_next l.key-iterator;
  is_finite : goal.iterator-loop-key.is_finite l.key-iterator;
  set : set_all (into_iter_items l.key-iterator) l.written ≡ set_all l.fn.copies.items l.initial.written;
  back : all_taken_back l.done.items l.written ≡ all_taken_back l.initial.done.items l.initial.written;
}
