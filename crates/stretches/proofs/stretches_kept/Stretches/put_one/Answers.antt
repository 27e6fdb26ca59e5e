use Rattle.stretches.proofs.Places.{no_more, no_more_of}
use Rattle.stretches.proofs.stretches_kept.Stretches.put_one.Goals as goal

pub returns-then-place-len : goal.returns-then-place-len
returns-then-place-len c =
    no_more_of c.args.stretch c.args.self.now c.make_room-place.new.self c.put.new.self c.make_room-place.ensures
    (no_more c.make_room-place.result c.make_room-place.result c.make_room-place.new.self c.put.new.self c.args.stretch c.put.ensures)
