use Rattle.version_store.proofs.KillLemmas.{IsClosing}
use Rattle.version_store.proofs.kill.close_under.Given as goal

abbrev pub invariant-loop-key : goal.invariant-loop-key
invariant-loop-key l = record {
  can_next : goal.iterator-loop-key.can_next l.key-iterator;
  is_finite : goal.iterator-loop-key.is_finite l.key-iterator;
  closing : IsClosing l.root l.tree.pairs l.initial.chains l.key-iterator l.chains l.placed;
}
