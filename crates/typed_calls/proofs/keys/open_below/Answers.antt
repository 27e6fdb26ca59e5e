use Rattle.std.proofs.Common.{arith}
use Rattle.typed_calls.proofs.Below.{open_within}
use Rattle.typed_calls.proofs.keys.open_below.Goals as goal

pub returns-clause-within : goal.returns-clause-within
returns-clause-within c = open_within c.args.key.now c.depth_of.result c.as_slice-form.ensures.form c.depth_of.ensures (omega (arith, c.if-depth_of.false))
