use Rattle.script_run.proofs.Stopped.{passed_on, ended_before, ended_listed}
use Rattle.script_run.proofs.run.write_ending.Goals as goal

pub returns-in_err-extend_from_slice-clause-stopped : goal.returns-in_err-extend_from_slice-clause-stopped
returns-in_err-extend_from_slice-clause-stopped g c = λ _. ended_before _ _ _ _ _ c.in_err-extend_from_slice.ensures.items

pub returns-in_err-write_listing_after-clause-stopped : goal.returns-in_err-write_listing_after-clause-stopped
returns-in_err-write_listing_after-clause-stopped g c = λ memory. ended_listed _ _ _ _ _ _ _ _ c.if-listed.true c.content-content.ensures c.in_ok-extend_from_slice.ensures.items (c.in_err-write_listing_after.ensures.listed (passed_on _ _ c.from_residual-in_err-write_listing_after.ensures.1 memory))
