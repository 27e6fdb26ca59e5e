use Rattle.std.proofs.Common.{rules, arith}
use Rattle.pin_board.proofs.SeatLemmas.{lifts_at}
use Rattle.pin_board.proofs.words.Words.lift.Goals as goal

pub fetch_max-requires : goal.fetch_max-requires
fetch_max-requires c = (search rules, omega arith, lifts_at _ _ _ _ c.requires.desk _ c.requires.clock)
