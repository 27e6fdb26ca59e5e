use Rattle.key_codec.proofs.Filled.{one_filled}
use Rattle.key_codec.proofs.bytes.short.Goals as goal

pub invariant_of-result : goal.invariant_of-result
invariant_of-result c = (c.requires, one_filled c.args.bytes.now _ 38 c.copy_from_slice.ensures.after)
