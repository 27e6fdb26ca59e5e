use denote.RattleType.{RattleType}
use denote.Param.Send.{IsSend, IsSync, Frees}
use Rattle.std.specs.declared.alloc.Allocator.{Ghosts}
use Rattle.cell_pool.proofs.Crossing.{Lease-sync}
use Rattle.cell_pool.specs.contracts.page.Lease.{the_row}

pub sync : (T A : RattleType) (g : Ghosts A.Denot) → IsSend A → Frees g g.dealloc_token → IsSync (the_row T A g)
sync T A g _ = Lease-sync T A g
