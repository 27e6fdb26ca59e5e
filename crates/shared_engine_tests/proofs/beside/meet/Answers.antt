use denote.Param.{param}
use denote.Builtin.{bool}
use denote.Param.Send.{IsSync, sendable}
use Rattle.std.proofs.Crossing as heap
use Rattle.std.proofs.sync.atomic.AtomicU64.TheSendSync as atomic
use Rattle.shared_engine.proofs.Crossing.{shared_sync}
use Rattle.shared_engine_tests.proofs.beside.meet.Goals as goal

flag : IsSync bool
flag = search sendable

-- the leave to wait, the allocator, the engine, the flag and the stage may be lent to threads
pub map_indices-made-requires-sync-F : goal.map_indices-made-requires-sync-F
map_indices-made-requires-sync-F g c κs within =
    let s = shared_sync (param 0 g.row.B) g.B.BoardName in
    record {
      shared = λ x b o κ. (
        (
          ((λ q. tt), c.type_bounds.sync-R.shared x.0.now x.0.ref_ptr.0 x.0.ref_ptr.1 _),
          (
            ((λ q. tt), heap.sync.shared x.1.now x.1.ref_ptr.0 x.1.ref_ptr.1 κ),
            (
              ((λ q. tt), s.shared x.2.now x.2.ref_ptr.0 x.2.ref_ptr.1 _),
              (((λ q. tt), flag.shared x.3.now x.3.ref_ptr.0 x.3.ref_ptr.1 κ), (((λ q. tt), atomic.the_sync.shared x.4.now x.4.ref_ptr.0 x.4.ref_ptr.1 _), tt)),
            ),
          ),
        ),
        (λ q. tt),
      );
    }
