use Rattle.collation.specs.laws.Rooms.{filled}
use Rattle.key_codec.proofs.Filled.{rest_filled}
use Rattle.key_codec.proofs.bytes.short_joined.Goals as goal

pub returns : goal.returns
returns c = filled c.args.first.now c.args.second.now _ _ _ _ c.copy_from_slice.ensures.after c.copy_from_slice-2.ensures.after

pub invariant_of-result : goal.invariant_of-result
invariant_of-result c = (c.requires, rest_filled c.args.first.now c.args.second.now _ _ 38 c.copy_from_slice.ensures.after c.copy_from_slice-2.ensures.after c.requires)
