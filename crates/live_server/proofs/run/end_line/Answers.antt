use Rattle.live_server.proofs.Steps.{Broke-at}
use Rattle.live_server.proofs.run.end_line.Goals as goal

pub returns-in-Err-clause-err : goal.returns-in-Err-clause-err
returns-in-Err-clause-err g c = Broke-at _ _ _ _ c.write_before_end.ensures
