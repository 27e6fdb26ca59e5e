use Rattle.std.proofs.Common.{rules, arith}
use Rattle.pin_board.proofs.SeatLemmas.{checks_at}
use Rattle.pin_board.proofs.words.Words.check_floor.Goals as goal

pub load-requires : goal.load-requires
load-requires c = (search rules, omega arith, checks_at _ _ _ _ c.requires.pin c.requires.free c.requires.same_stamp)
