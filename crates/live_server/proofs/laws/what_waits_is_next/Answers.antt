use Rattle.live_server.proofs.Halts.{waiting_next}
use Rattle.live_server.proofs.laws.what_waits_is_next.Goals as goal

pub returns : goal.returns
returns c = waiting_next
