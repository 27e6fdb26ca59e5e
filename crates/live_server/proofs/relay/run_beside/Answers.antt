use Rattle.listing.specs.laws.Bytes.{on_err}
use Rattle.live_server.proofs.Relays.{broke, broke_first, read_front, answered_front}
use Rattle.live_server.proofs.relay.run_beside.Goals as goal

pub returns-in_default-clause-begun : goal.returns-in_default-clause-begun
returns-in_default-clause-begun g c = broke_first _ _ _ _

pub returns-clause-begun : goal.returns-clause-begun
returns-clause-begun g c = on_err _ _ (broke _ _ _ _ _ _ _ _ c.run_on_ring-outcome.ensures.output c.run_on_ring-outcome.ensures.begun c.joined-outcome.ensures.front (rw c.in-Some.ensures.0 at c.join.ensures.front))

pub returns-clause-read : goal.returns-clause-read
returns-clause-read g c = λ k. read_front _ _ _ _ _ _ _ _ _ _ c.run_on_ring-outcome.ensures.output c.run_on_ring-outcome.ensures.read c.joined-outcome.ensures.front (rw c.in-Some.ensures.0 at c.join.ensures.front) (c.joined-outcome.ensures.read k)

pub returns-clause-stuck : goal.returns-clause-stuck
returns-clause-stuck g c = λ k. answered_front _ _ _ _ _ _ _ _ _ c.run_on_ring-outcome.ensures.stuck c.joined-outcome.ensures.front (rw c.in-Some.ensures.0 at c.join.ensures.front) (c.joined-outcome.ensures.stuck k)
