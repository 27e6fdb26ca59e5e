use Rattle.std.proofs.Common.{rules, arith, refl}
use Rattle.pin_board.proofs.SeatLemmas.{settles_at}
use Rattle.pin_board.proofs.words.Words.settle_now.Goals as goal

pub store-requires : goal.store-requires
store-requires c = (search rules, omega arith, settles_at _ _ _ _ c.requires.both _ c.args.place _ refl c.requires.place.0 c.requires.now)
