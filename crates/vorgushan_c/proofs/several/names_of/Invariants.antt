use Rattle.std.proofs.Common.{◌≡◌}
use Rattle.vorgushan_c.specs.Several.{held_in}
use Rattle.vorgushan_c.proofs.Asked.{IsSoFar}
use Rattle.vorgushan_c.proofs.several.names_of.Given as goal

-- the keys hold what they held, and the names are those of the keys so far
abbrev pub invariant-loop-whole : goal.invariant-loop-whole
invariant-loop-whole l = record {
  held : held_in l.keys ≡ held_in l.initial.keys;
  so_far : IsSoFar (held_in l.keys) l.whole-index l.names.items;
}
