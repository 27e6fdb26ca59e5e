use Rattle.std.proofs.Common.{◌≡◌, ◌∷◌, rules}
use Rattle.std.specs.Vec.Iter.{into_iter_items}
use Rattle.journal.proofs.Rising.{making_on}
use Rattle.journal.proofs.merging.Merging.make_all.Goals as goal

pub changes-preserved : goal.changes-preserved
changes-preserved c =
    let steps : into_iter_items c.changes.key-iterator ≡ (c.in-Some.key, c.in-Some.value) ∷ into_iter_items c.next.new.self = search rules in
    record {
      can_next = tt;
      is_finite = tt;
      making = making_on c.changes.self c.make.new.self (into_iter_items c.changes.key-iterator) (into_iter_items c.next.new.self) c.args.changes.items c.args.self.now.left (c.in-Some.key, c.in-Some.value) steps c.changes.invariant.making
          (record { made = c.make.ensures.made; behind = c.make.ensures.behind; room = c.make.ensures.room });
    }
