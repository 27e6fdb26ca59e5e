use denote.Param.Send.{IsSync, param_sync}
use Rattle.hub.proofs.Crossing.{hub_sync}
use Rattle.hub_tests.proofs.crossing.hub_is_shared.Lts as lts
use Rattle.hub_tests.proofs.crossing.hub_is_shared.Goals as goal

pub is_shared-requires-sync-T : goal.is_shared-requires-sync-T
is_shared-requires-sync-T c κs = let a : IsSync (lts.arg-0-0 κs) = record { shared = hub_sync.shared } in param_sync 0 _ a
