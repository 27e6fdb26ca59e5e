use Rattle.std.proofs.Common.{◌≡◌, ◌≤◌, ◌-◌, ℕ, length}
use Rattle.std.specs.Prelude.{vec_capacity}
use Rattle.live_server.specs.Desks.{no_lines, desk_of}
use Rattle.live_server.proofs.desks.Desks.new.Given as goal

-- those so far have no lines, and there is room for all
abbrev pub invariant-desks : goal.invariant-desks
invariant-desks l = record {
  none : (job : ℕ) → desk_of l.desks.items job ≡ no_lines;
  few : length l.desks.items ≤ 4097;
  room : 4097 ≤ vec_capacity l.desks;
}

abbrev pub decreases-desks : goal.decreases-desks
decreases-desks l = 4097 - length l.desks.items
