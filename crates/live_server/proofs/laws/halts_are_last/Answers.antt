use Rattle.live_server.proofs.Halts.{halts_last}
use Rattle.live_server.proofs.laws.halts_are_last.Goals as goal

pub returns : goal.returns
returns c = halts_last
