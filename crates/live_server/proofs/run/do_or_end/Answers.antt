use Rattle.live_server.proofs.Steps.{Broke-written}
use Rattle.live_server.proofs.run.do_or_end.Goals as goal

pub returns-in-Ok-clause-ran : goal.returns-in-Ok-clause-ran
returns-in-Ok-clause-ran g c = c.in-Ok.ensures.ran _

pub returns-in-Err-clause-err : goal.returns-in-Err-clause-err
returns-in-Err-clause-err g c = Broke-written _ _ _ _ _ c.in-Err.ensures.err c.write_before_end.ensures
