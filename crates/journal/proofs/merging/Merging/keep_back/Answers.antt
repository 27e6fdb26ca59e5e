use Rattle.std.proofs.Common.{ap, ◌∙◌}
use Rattle.std.specs.Prelude.{vec_capacity}
use Rattle.std.specs.VecDeque.{deque_capacity}
use Rattle.journal.specs.Merging.{Parted}
use Rattle.journal.proofs.Merges.{kept_back, places_back, back_length, next_there}
use Rattle.journal.proofs.merging.Merging.keep_back.Goals as goal

pub invariant_of-self : goal.invariant_of-self
invariant_of-self c = places_back c.self.inside.nodes.items c.swap.new.nodes.items c.self.inside.waiting.items c.self.inside.done c.self.inside.next c.self.inside.room (vec_capacity c.self.inside.nodes) (deque_capacity c.self.inside.waiting) (vec_capacity c.swap.new.nodes)
    c.self.invariant (ap (λ (p : Parted). p.waits) c.self.view_is ∙ c.requires.none) (next_there c.args.self.now c.self.inside.nodes.items c.self.inside.waiting.items c.self.inside.done c.self.inside.next c.self.inside.room c.self.view_is c.requires.some)
    (back_length c.self.inside.nodes.items c.swap.new.nodes.items c.self.inside.done c.self.inside.next (next_there c.args.self.now c.self.inside.nodes.items c.self.inside.waiting.items c.self.inside.done c.self.inside.next c.self.inside.room c.self.view_is c.requires.some) c.swap.ensures.new) c.swap.ensures.capacity

pub returns : goal.returns
returns c = record { kept = kept_back c.args.self.now c.self.inside.nodes.items c.swap.new.nodes.items c.self.inside.waiting.items c.self.inside.done c.self.inside.next c.self.inside.room (vec_capacity c.self.inside.nodes) (deque_capacity c.self.inside.waiting) c.self.view_is c.self.invariant c.requires.none c.swap.ensures.new }
