use Rattle.std.proofs.Common.{◌≡◌, ◌++◌}
use Rattle.rtrb.specs.Ring.{sent, SameProducer}
use Rattle.live_server.proofs.reading.push_all.Given as goal

-- what was put in and what is left are all
abbrev pub invariant-rounds : goal.invariant-rounds
invariant-rounds g l = SameProducer l.fn.ring l.ring × (sent l.ring ++ l.rest ≡ sent l.fn.ring ++ l.fn.bytes)
