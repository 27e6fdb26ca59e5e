use Rattle.job_server.proofs.worker.Worker.try_line.Goals as goal

pub returns-in_ok-behind-in-One-Err : goal.returns-in_ok-behind-in-One-Err
returns-in_ok-behind-in-One-Err g c = c.in_ok-behind-in-One-Err.ensures.within tt
