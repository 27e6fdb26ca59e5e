use Rattle.std.proofs.Crossing as heap
use Rattle.hub.specs.contracts.hub.Hub as Hub
use Rattle.hub.proofs.Crossing.{hub_send, hub_sync}
use Rattle.hub_tests.proofs.locks.four_count.Goals as goal

-- the leave to wait, the allocator and an owner of the hub may be lent to threads
pub map_indices-requires-sync-F : goal.map_indices-requires-sync-F
map_indices-requires-sync-F g c κs within =
    let s = heap.Arc-sync Hub.the_row hub_send hub_sync in
    record { shared = λ x b o κ. ((((λ q. tt), c.type_bounds.sync-R.shared x.0.now x.0.ref_ptr.0 x.0.ref_ptr.1 _), (((λ q. tt), heap.sync.shared x.1.now x.1.ref_ptr.0 x.1.ref_ptr.1 κ), (((λ q. tt), s.shared x.2.now x.2.ref_ptr.0 x.2.ref_ptr.1 κ), tt))), (λ q. tt)) }
