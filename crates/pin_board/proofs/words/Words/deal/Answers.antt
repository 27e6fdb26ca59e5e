use Rattle.std.proofs.Common.{rules, arith}
use Rattle.pin_board.proofs.SeatLemmas.{deals_at}
use Rattle.pin_board.proofs.words.Words.deal.Goals as goal

pub split_seat-requires : goal.split_seat-requires
split_seat-requires c = (search rules, omega arith, deals_at _ 0 _ _ c.requires.desk (omega arith))
