use Rattle.std.proofs.Common.{◌∷◌}
use Rattle.job_server.proofs.Loads.{closed_book}
use Rattle.job_server.proofs.load.close.Goals as goal

pub returns-in-Ok-clause-booked : goal.returns-in-Ok-clause-booked
returns-in-Ok-clause-booked g c =
    λ first more set. closed_book (first ∷ more) c.args.session c.in-Ok.pass c.numbers.result.now set c.numbers.ensures.all c.numbers.ensures.rising (c.ends_at_count.ensures c.if-not-ends_at_count.false) c.in-Ok.ensures.pass
