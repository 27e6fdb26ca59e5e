use denote.RattleType.{RattleType}
use denote.Param.Send.{IsSync}
use Rattle.cell_pool.proofs.Crossing.{Cell-sync}
use Rattle.cell_pool.specs.contracts.cell.Cell.{the_row}

pub sync : (T : RattleType) → IsSync T → IsSync (the_row T)
sync = Cell-sync
