use Rattle.collation.specs.laws.Rooms.{filled}
use Rattle.collation.proofs.text.short_joined.Goals as goal

pub returns : goal.returns
returns c = filled c.args.first.now c.args.second.now _ _ _ _ c.copy_from_slice.ensures.after c.copy_from_slice-2.ensures.after
