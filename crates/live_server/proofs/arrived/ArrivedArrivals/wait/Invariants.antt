use Rattle.std.proofs.Common.{◌≡◌}
use Rattle.rtrb.specs.Ring.{received}
use Rattle.live_server.proofs.arrived.ArrivedArrivals.wait.Given as goal

-- nothing was taken yet
abbrev pub invariant-looks : goal.invariant-looks
invariant-looks g l = (received l.self.ring ≡ received l.fn.self.ring) × (l.self.other ≡ l.fn.self.other)
