use denote.Param.{param}
use denote.Param.Send.{IsSync, param_sync}
use Rattle.shared_engine.proofs.Crossing.{shared_sync}
use Rattle.shared_engine_tests.proofs.crossing.engine_is_shared.Lts as lts
use Rattle.shared_engine_tests.proofs.crossing.engine_is_shared.Goals as goal

pub is_shared-requires-sync-T : goal.is_shared-requires-sync-T
is_shared-requires-sync-T g c κs within =
    let s = shared_sync (param 0 g.row.B) g.B.BoardName in
    let a : IsSync (lts.arg-0-0 g.row.B g.B.laws g.B.BoardName g.B.BoardName-dict κs) = record { shared = s.shared } in
    param_sync 0 _ a
