use Rattle.std.proofs.Common.{rules, arith}
use Rattle.pin_board.proofs.SeatLemmas.{clocks_at}
use Rattle.pin_board.proofs.words.Words.read_clock.Goals as goal

pub load-requires : goal.load-requires
load-requires c = (search rules, omega arith, clocks_at _ _ _ _ c.requires.pin c.requires.free)
