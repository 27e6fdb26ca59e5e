use Rattle.std.proofs.Common.{ap, ◌∙◌, ◌++◌}
use Rattle.std.specs.Prelude.{vec_capacity}
use Rattle.std.specs.Option.{option_to_list}
use Rattle.std.specs.VecDeque.{deque_capacity}
use Rattle.journal.proofs.Merges.{kept_behind}
use Rattle.journal.proofs.merging.Merging.keep_behind.Goals as goal

pub returns : goal.returns
returns c = record {
  kept = kept_behind c.args.self.now c.self.inside.nodes.items c.exchange-node.new.nodes.items c.self.inside.waiting.items c.pop_front.new.self.items c.push_back_reserved.new.self.items c.in-Some.node c.exchange-node.result c.self.inside.done c.self.inside.next c.self.inside.room
      (vec_capacity c.self.inside.nodes) (deque_capacity c.self.inside.waiting) c.self.view_is c.self.invariant (c.pop_front.ensures.items ∙ ap (λ o. option_to_list o ++ c.pop_front.new.self.items) c.in-Some.is) c.exchange-node.ensures.old c.exchange-node.ensures.new c.push_back_reserved.ensures.items;
}
