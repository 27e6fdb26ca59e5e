use Rattle.job_server.proofs.worker.Worker.try_command.Goals as goal

pub returns-in_ok-behind-in_default : goal.returns-in_ok-behind-in_default
returns-in_ok-behind-in_default g c = c.in_ok-behind-in_default.ensures.within (c.in_default.not-Commit, c.in_default.not-Rollback, c.in_default.not-Halt)
