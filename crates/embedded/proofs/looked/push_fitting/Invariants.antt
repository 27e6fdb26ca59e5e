use Rattle.std.specs.Option.{option_map}
use Rattle.embedded.proofs.Walked.{Goes}
use Rattle.embedded.proofs.looked.push_fitting.Given as goal

-- with the nodes that are left it will be the whole
abbrev pub invariant-nodes : goal.invariant-nodes
invariant-nodes g l = record {
  steps : (goal.iterator-nodes g).can_next l.key-iterator × (goal.iterator-nodes g).is_finite l.key-iterator;
  goes : Goes (option_map (λ b. b.value) l.root) l.room l.fn.walk l.key-iterator l.fn.first l.last l.fn.text.items l.text.items;
}
