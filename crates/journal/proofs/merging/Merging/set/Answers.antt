use Rattle.std.proofs.Common.{length, sym, subst}
use Rattle.std.specs.Prelude.{vec_capacity, ◌<◌}
use Rattle.std.specs.VecDeque.{deque_capacity}
use Rattle.journal.specs.Merging.{Parted}
use Rattle.journal.proofs.Merges.{set_there, set_places, some_left, set_at}
use Rattle.journal.proofs.merging.Merging.set.Goals as goal

pub invariant_of-self : goal.invariant_of-self
invariant_of-self c =
    let at = set_at c.self.inside.nodes.items c.set_value.new.nodes.items c.self.inside.next c.args.value (subst (λ (p : Parted). 0 < length p.left) (sym c.self.view_is) c.requires) c.set_value.ensures.new in
    set_places c.self.inside.nodes.items c.set_value.new.nodes.items c.self.inside.waiting.items c.self.inside.done c.self.inside.next c.self.inside.room (vec_capacity c.self.inside.nodes) (deque_capacity c.self.inside.waiting) (vec_capacity c.set_value.new.nodes) at.0 c.self.invariant at.1 c.set_value.ensures.capacity

pub keep-requires : goal.keep-requires
keep-requires c =
    let some = subst (λ (p : Parted). 0 < length p.left) (sym c.self.view_is) c.requires in
    let at = set_at c.self.inside.nodes.items c.set_value.new.nodes.items c.self.inside.next c.args.value some c.set_value.ensures.new in
    some_left c.self.inside.nodes.items c.set_value.new.nodes.items c.self.inside.next at.0 at.1 some

pub returns : goal.returns
returns c = set_there c.args.self.now c.keep.new.self c.self.inside.nodes.items c.set_value.new.nodes.items c.self.inside.waiting.items c.args.value c.self.inside.done c.self.inside.next c.self.inside.room c.self.view_is c.set_value.ensures.new c.self.invariant.between c.keep.ensures
