use Rattle.std.proofs.Common.{rules, arith}
use Rattle.pin_board.proofs.SeatLemmas.{adds_at}
use Rattle.pin_board.proofs.words.Words.return_slip.Goals as goal

pub join_seat-requires : goal.join_seat-requires
join_seat-requires c = (search rules, search rules, search rules, omega arith, adds_at _ _ _ _ _ c.requires.tally c.requires.slip)
