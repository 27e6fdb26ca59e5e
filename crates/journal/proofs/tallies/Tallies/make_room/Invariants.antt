use Rattle.std.proofs.Common.{◌≡◌, ◌+◌, ◌-◌, ℕ, length}
use Rattle.journal.specs.Counting.{tally_in, one_more}
use Rattle.journal.proofs.tallies.Tallies.make_room.Given as goal

abbrev pub invariant-loop-self : goal.invariant-loop-self
invariant-loop-self l = record {
  same : (q : ℕ) → tally_in l.self-inside.counts.items q ≡ tally_in l.initial.self-inside.counts.items q;
  one : one_more l.number l.self-inside.counts.items ≡ one_more l.number l.initial.self-inside.counts.items;
}

abbrev pub decreases-loop-self : goal.decreases-loop-self
decreases-loop-self l = l.number + 1 - length l.self-inside.counts.items
