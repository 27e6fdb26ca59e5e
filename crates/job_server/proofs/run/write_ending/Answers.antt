use Rattle.job_server.proofs.Faulting.{on_fault, listing_writes}
use Rattle.job_server.proofs.run.write_ending.Goals as goal

pub returns-in_err-write_listing_after-clause-kind : goal.returns-in_err-write_listing_after-clause-kind
returns-in_err-write_listing_after-clause-kind g c = on_fault _ _ _ c.from_residual-in_err-write_listing_after.ensures.1 (listing_writes c.in_err-write_listing_after.field-0.0)
