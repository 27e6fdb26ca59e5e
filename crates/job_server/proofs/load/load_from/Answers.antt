use Rattle.job_server.proofs.Loads.{book_on}
use Rattle.job_server.proofs.load.load_from.Goals as goal

pub returns-in-Ok-clause-booked : goal.returns-in-Ok-clause-booked
returns-in-Ok-clause-booked g c = book_on _ _ _ _ c.in-Ok.ensures.done c.close.ensures.booked
