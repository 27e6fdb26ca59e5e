use denote.RattleType.{RattleType}
use denote.Param.Send.{IsSend, Frees}
use Rattle.std.specs.declared.alloc.Allocator.{Ghosts}
use Rattle.cell_pool.proofs.Crossing.{Lease-send}
use Rattle.cell_pool.specs.contracts.page.Lease.{the_row}

pub send : (T A : RattleType) (g : Ghosts A.Denot) → IsSend A → Frees g g.dealloc_token → IsSend (the_row T A g)
send T A g _ = Lease-send T A g
