use denote.RattleType.{RattleType}
use denote.Param.Send.{IsSend}
use Rattle.cell_pool.proofs.Crossing.{Cell-send}
use Rattle.cell_pool.specs.contracts.cell.Cell.{the_row}

pub send : (T : RattleType) → IsSend T → IsSend (the_row T)
send = Cell-send
