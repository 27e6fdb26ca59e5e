use Rattle.std.proofs.Common.{◌+◌}
use Rattle.stretches.proofs.Places.{no_more}
use Rattle.stretches.proofs.stretches_kept.Stretches.put_back.Goals as goal

pub returns-then-is_parted : goal.returns-then-is_parted
returns-then-is_parted c = no_more c.place_from-place.result (c.place_from-place.result + 1) c.args.self.now c.put.new.self c.args.part c.put.ensures
