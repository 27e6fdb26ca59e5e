use Rattle.std.proofs.Common.{rules, arith}
use Rattle.pin_board.proofs.SeatLemmas.{lends_at}
use Rattle.pin_board.proofs.words.Words.lend.Goals as goal

pub join_seat-requires : goal.join_seat-requires
join_seat-requires c = (search rules, search rules, search rules, omega arith, lends_at _ _ _ _ _ c.requires.pin c.requires.desk)
