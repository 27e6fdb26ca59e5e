use Rattle.embedded.specs.laws.Counts.{all_counted}
use Rattle.typed_calls.proofs.keys.depth_of.Goals as goal

pub returns : goal.returns
returns c = all_counted _ _ _ c.in-None.ensures.steps.0 c.subscripts.invariant.low c.subscripts.invariant.counted
