use Rattle.std.proofs.Common.{rules, arith, refl}
use Rattle.pin_board.proofs.SeatLemmas.{rests_at}
use Rattle.pin_board.proofs.words.Words.rest.Goals as goal

pub store-requires : goal.store-requires
store-requires c = (search rules, omega arith, rests_at _ _ _ _ c.requires.pin _ c.args.place refl c.requires.place.0)
