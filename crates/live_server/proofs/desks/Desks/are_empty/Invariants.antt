use Rattle.std.proofs.Common.{◌≤◌, ◌-◌}
use Rattle.live_server.proofs.Owned.{AreEmptyBefore}
use Rattle.live_server.proofs.desks.Desks.are_empty.Given as goal

-- those before have no lines
abbrev pub invariant-desks : goal.invariant-desks
invariant-desks l = record {
  few : l.at ≤ 4097;
  before : AreEmptyBefore l.at l.self;
}

abbrev pub decreases-desks : goal.decreases-desks
decreases-desks l = 4097 - l.at
