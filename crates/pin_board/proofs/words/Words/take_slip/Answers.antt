use Rattle.std.proofs.Common.{rules, arith}
use Rattle.pin_board.proofs.SeatLemmas.{takes_slip_at}
use Rattle.pin_board.proofs.words.Words.take_slip.Goals as goal

pub split_seat-requires : goal.split_seat-requires
split_seat-requires c = (search rules, omega arith, takes_slip_at _ _ _ c.requires.pin c.requires.slip)
