use Rattle.std.proofs.Common.{rules}
use Rattle.job_server.proofs.Stepped.{restart_of}
use Rattle.job_server.proofs.worker.Worker.begin_anew.Goals as goal

pub returns-in-Ok : goal.returns-in-Ok
returns-in-Ok g c = restart_of c.trestart.result _ c.args.session.now c.trestart.new.session (search rules) c.trestart.ensures.done c.in-Ok.is
