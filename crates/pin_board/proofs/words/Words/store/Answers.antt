use Rattle.std.proofs.Common.{rules, arith, refl}
use Rattle.pin_board.proofs.SeatLemmas.{stores_at}
use Rattle.pin_board.proofs.words.Words.store.Goals as goal

pub store-requires : goal.store-requires
store-requires c = (search rules, omega arith, stores_at _ _ _ _ c.requires.pin _ c.args.place _ refl c.requires.place.0 c.requires.free)
