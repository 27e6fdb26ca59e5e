use denote.RattleType.{RattleType}
use denote.Param.Send.{IsSync}
use Rattle.cell_pool.proofs.Crossing.{Stock-sync}
use Rattle.cell_pool.specs.contracts.page.Stock.{the_row}

pub sync : (T : RattleType) → IsSync (the_row T)
sync = Stock-sync
