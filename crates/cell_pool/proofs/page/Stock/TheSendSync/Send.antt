use denote.RattleType.{RattleType}
use denote.Param.Send.{IsSend}
use Rattle.cell_pool.proofs.Crossing.{Stock-send}
use Rattle.cell_pool.specs.contracts.page.Stock.{the_row}

pub send : (T : RattleType) → IsSend (the_row T)
send = Stock-send
