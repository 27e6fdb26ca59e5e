use Rattle.std.proofs.Common.{rules, arith}
use Rattle.pin_board.proofs.SeatLemmas.{writes_at}
use Rattle.pin_board.proofs.words.Words.write.Goals as goal

pub compare_exchange_with-requires : goal.compare_exchange_with-requires
compare_exchange_with-requires c = (search rules, omega arith, writes_at _ _ _ _ c.requires.both _ _ _ c.requires.next c.requires.slip (omega arith) (omega arith))
