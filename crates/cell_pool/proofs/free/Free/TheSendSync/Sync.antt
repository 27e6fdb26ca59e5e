use denote.RattleType.{RattleType}
use denote.Param.Send.{IsSync}
use Rattle.cell_pool.proofs.Crossing.{Free-sync}
use Rattle.cell_pool.specs.contracts.free.Free.{the_row}

pub sync : (T : RattleType) → IsSync (the_row T)
sync = Free-sync
