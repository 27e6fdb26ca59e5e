use Rattle.std.proofs.Common.{ap, ◌∙◌, ◌++◌}
use Rattle.std.specs.Prelude.{vec_capacity}
use Rattle.std.specs.Option.{option_to_list}
use Rattle.std.specs.VecDeque.{deque_capacity}
use Rattle.journal.proofs.Merges.{passed_behind, next_there}
use Rattle.journal.proofs.merging.Merging.pass_behind.Goals as goal

pub returns : goal.returns
returns c = record {
  passed = passed_behind c.args.self.now c.self.inside.nodes.items c.exchange.new.nodes.items c.self.inside.waiting.items c.pop_front.new.self.items c.in-Some.node c.self.inside.done c.self.inside.next c.self.inside.room
      (vec_capacity c.self.inside.nodes) (deque_capacity c.self.inside.waiting) c.self.view_is c.self.invariant (c.pop_front.ensures.items ∙ ap (λ o. option_to_list o ++ c.pop_front.new.self.items) c.in-Some.is)
      (next_there c.args.self.now c.self.inside.nodes.items c.self.inside.waiting.items c.self.inside.done c.self.inside.next c.self.inside.room c.self.view_is c.requires.some) c.exchange.ensures.new;
}
