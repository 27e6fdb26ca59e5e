use Rattle.std.proofs.Common.{refl, inl, inr}
use Rattle.job_server.proofs.Faulting.{on_fault, input_is, input_read, input_memory, input_unwritten}
use Rattle.job_server.proofs.Reading.{if_any, if_read}
use Rattle.job_server.proofs.run.run_jobs.Goals as goal

pub returns-in_err-text-clause-unloaded : goal.returns-in_err-text-clause-unloaded
returns-in_err-text-clause-unloaded g c = on_fault _ _ _ c.from_residual.ensures.1 (input_is c.args.listing.now c.in_err-text.field-0.0)

pub returns-in_err-text-clause-nothing : goal.returns-in_err-text-clause-nothing
returns-in_err-text-clause-nothing g c = on_fault _ _ _ c.from_residual.ensures.1 (inr refl)

pub returns-in_err-text-clause-counted : goal.returns-in_err-text-clause-counted
returns-in_err-text-clause-counted g c = λ w. absurd (input_unwritten _ _ c.from_residual.ensures.1 w)

pub returns-in_err-text-clause-read : goal.returns-in_err-text-clause-read
returns-in_err-text-clause-read g c = λ w. c.in_err-text.ensures.counted (input_read _ _ c.from_residual.ensures.1 w)

pub returns-in_err-text-clause-input : goal.returns-in_err-text-clause-input
returns-in_err-text-clause-input g c = λ w. c.in_err-text.ensures.memory (input_memory _ _ c.from_residual.ensures.1 w)

pub returns-in_err-text-clause-replies : goal.returns-in_err-text-clause-replies
returns-in_err-text-clause-replies g c = λ w. if_any _ _ (λ bytes. inl refl)

pub returns-clause-replies : goal.returns-clause-replies
returns-clause-replies g c = λ w. if_read _ _ _ c.in_ok-text.ensures.all (c.run_text.ensures.replies w)
