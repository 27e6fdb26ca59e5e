use Rattle.std.proofs.Common.{rules, arith}
use Rattle.pin_board.proofs.SeatLemmas.{gives_back_at}
use Rattle.pin_board.proofs.words.Words.give_back.Goals as goal

pub split_seat-requires : goal.split_seat-requires
split_seat-requires c = (search rules, omega arith, gives_back_at _ 0 _ _ c.requires.both)
