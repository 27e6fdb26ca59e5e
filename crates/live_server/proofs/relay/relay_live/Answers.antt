use Rattle.live_server.proofs.Relays.{broke_first}
use Rattle.live_server.proofs.relay.relay_live.Goals as goal

pub returns-in-Err-clause-begun : goal.returns-in-Err-clause-begun
returns-in-Err-clause-begun g c = broke_first _ _ _ _
