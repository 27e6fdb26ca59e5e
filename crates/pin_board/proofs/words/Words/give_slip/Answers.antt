use Rattle.std.proofs.Common.{rules, arith}
use Rattle.pin_board.proofs.SeatLemmas.{gives_slip_at}
use Rattle.pin_board.proofs.words.Words.give_slip.Goals as goal

pub load-requires : goal.load-requires
load-requires c = (search rules, omega arith, gives_slip_at _ _ _ _ c.requires.both c.requires.free)
