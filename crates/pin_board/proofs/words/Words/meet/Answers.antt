use Rattle.std.proofs.Common.{rules, arith}
use Rattle.pin_board.proofs.SeatLemmas.{meets_at}
use Rattle.pin_board.proofs.words.Words.meet.Goals as goal

pub load-requires : goal.load-requires
load-requires c = (search rules, omega arith, meets_at _ _ _ _ c.requires.both)
