use Rattle.std.proofs.Common.{rules, arith, refl}
use Rattle.pin_board.proofs.SeatLemmas.{passes_at}
use Rattle.pin_board.proofs.words.Words.pass.Goals as goal

pub load-requires : goal.load-requires
load-requires c = (search rules, omega arith, passes_at _ _ _ _ c.requires.desk _ c.args.place refl c.requires.place.0 c.requires.raised (omega arith))
