use Rattle.listing.specs.laws.Bytes.{WritesBeginning-all}
use Rattle.live_server.proofs.run.write_before_end.Goals as goal

pub returns-in-Ok : goal.returns-in-Ok
returns-in-Ok g c = WritesBeginning-all _ _ _ c.in-Ok.ensures.ok
