use denote.RattleType.{RattleType}
use denote.Param.Send.{IsSend}
use Rattle.cell_pool.proofs.Crossing.{Free-send}
use Rattle.cell_pool.specs.contracts.free.Free.{the_row}

pub send : (T : RattleType) → IsSend (the_row T)
send = Free-send
