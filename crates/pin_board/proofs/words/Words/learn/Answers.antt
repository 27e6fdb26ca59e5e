use Rattle.std.proofs.Common.{rules, arith}
use Rattle.pin_board.proofs.SeatLemmas.{learns_at}
use Rattle.pin_board.proofs.words.Words.learn.Goals as goal

pub load-requires : goal.load-requires
load-requires c = (search rules, omega arith, learns_at _ _ _ _ c.requires.tally)
