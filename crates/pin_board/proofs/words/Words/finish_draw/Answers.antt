use Rattle.std.proofs.Common.{rules, arith}
use Rattle.pin_board.proofs.SeatLemmas.{draws_at}
use Rattle.pin_board.proofs.words.Words.finish_draw.Goals as goal

pub load-requires : goal.load-requires
load-requires c = (search rules, omega arith, draws_at _ _ _ _ c.requires.desk c.requires.raised c.requires.all)
