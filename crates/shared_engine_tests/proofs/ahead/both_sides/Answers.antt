use denote.Param.{param}
use Rattle.std.proofs.Crossing as heap
use Rattle.std.proofs.sync.atomic.AtomicU64.TheSendSync as atomic
use Rattle.shared_engine.proofs.Crossing.{shared_sync}
use Rattle.shared_engine_tests.proofs.ahead.both_sides.Goals as goal

-- the leave to wait, the allocator, the engine and the stage may be lent to threads
pub map_indices-requires-sync-F : goal.map_indices-requires-sync-F
map_indices-requires-sync-F g c κs within =
    let s = shared_sync (param 0 g.row.B) g.B.BoardName in
    record {
      shared = λ x b o κ. (
        (
          ((λ q. tt), c.type_bounds.sync-R.shared x.0.now x.0.ref_ptr.0 x.0.ref_ptr.1 _),
          (
            ((λ q. tt), heap.sync.shared x.1.now x.1.ref_ptr.0 x.1.ref_ptr.1 κ),
            (((λ q. tt), s.shared x.2.now x.2.ref_ptr.0 x.2.ref_ptr.1 _), (((λ q. tt), atomic.the_sync.shared x.3.now x.3.ref_ptr.0 x.3.ref_ptr.1 _), tt)),
          ),
        ),
        (λ q. tt),
      );
    }
