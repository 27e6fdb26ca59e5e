use Rattle.std.proofs.Common.{ℕ, List, ◌≡◌, true}
use Rattle.std.specs.Option.{option_copied}
use Rattle.std.specs.Prelude.{filter}
use Rattle.std.specs.FinMap.{is_sorted}
use Rattle.collation.specs.Order.{ref_cmp}
use Rattle.globals.specs.Cuts.{stands_before}
use Rattle.collation.specs.Reference.{Reference}
use Rattle.version_store.specs.Tied.{AreOpen, HasSeen}
use Rattle.version_store.proofs.SeenLemmas.{StandsAt}
use Rattle.version_store.proofs.turn.Seen.add_before.Given as goal

abbrev pub invariant-loop-key : goal.invariant-loop-key
invariant-loop-key l = record {
  can_next : goal.iterator-loop-key.can_next l.key-iterator;
  is_finite : goal.iterator-loop-key.is_finite l.key-iterator;
  opened : AreOpen l.chains l.key-iterator;
  sorted : is_sorted ref_cmp l.key-iterator ≡ true;
  stands : (qs : List (Reference × ℕ)) → HasSeen l.chains qs l.initial.self.keys.items l.initial.self.visited (option_copied l.initial.self.last)
      → StandsAt l.chains qs (filter (λ p. stands_before l.high p.0) l.fn.walk) l.limit (filter (λ p. stands_before l.high p.0) l.key-iterator) l.self.keys.items l.self.visited (option_copied l.self.last);
}
