use Rattle.std.proofs.Common.{arith}
use Rattle.version_store.proofs.store.count_versions.Goals as goal

pub returns : goal.returns
returns c = omega (arith, c.loop-id.invariant.few, rw c.in-None.ensures.steps.0 at c.loop-id.invariant.same)
