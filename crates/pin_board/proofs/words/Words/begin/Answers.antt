use Rattle.std.proofs.Common.{rules, arith}
use Rattle.pin_board.proofs.SeatLemmas.{begins_at}
use Rattle.pin_board.proofs.words.Words.begin.Goals as goal

pub load-requires : goal.load-requires
load-requires c = (search rules, omega arith, begins_at _ _ _ _ c.requires.desk)
