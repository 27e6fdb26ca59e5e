use Rattle.std.proofs.Common.{◌≡◌, ◌<◌, ◌++◌, length}
use Rattle.globals.specs.Cuts.{front_to}
use Rattle.key_map.proofs.view.first_nodes.Given as goal

abbrev pub invariant-loop-key : goal.invariant-loop-key
invariant-loop-key l = record {
  can_next : goal.iterator-loop-key.can_next l.key-iterator;
  is_finite : goal.iterator-loop-key.is_finite l.key-iterator;
  all : front_to l.end l.fn.walk ≡ l.run ++ front_to l.end l.key-iterator;
  few : length l.run < l.most;
}
