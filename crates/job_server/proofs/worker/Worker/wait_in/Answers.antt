use Rattle.job_server.proofs.Waiting.{waited}
use Rattle.job_server.proofs.worker.Worker.wait_in.Goals as goal

pub returns : goal.returns
returns g c =
    waited c.args.command.now c.lock_untimed-had.result c.args.session.now c.begin_anew.new.session c.lock_untimed-had.new.session c.begin_anew-2.new.session
    c.in_ok-begin_anew.ensures c.lock_untimed-had.ensures.locked c.in_ok-begin_anew-2.ensures
