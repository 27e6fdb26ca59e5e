use Rattle.listing.specs.laws.Bytes.{on_err}
use Rattle.script_run.proofs.Runs.{broke_last, broke_ending, ended, halted_still}
use Rattle.script_run.proofs.Stopped.{passed_on, stopped_last, stopped_ending}
use Rattle.script_run.proofs.run.finish.Goals as goal

pub returns-in_err-run_counted-clause-err : goal.returns-in_err-run_counted-clause-err
returns-in_err-run_counted-clause-err g c = on_err _ _ (broke_last _ _ _ _ _ c.in_err-run_counted.ensures.err)

pub returns-in_err-write_ending-clause-err : goal.returns-in_err-write_ending-clause-err
returns-in_err-write_ending-clause-err g c = on_err _ _ (broke_ending _ _ _ _ _ _ _ _ c.in_ok-run_counted.ensures.ran (rw c.as_slice.ensures at c.halt_open.ensures.nodes) c.in_err-write_ending.ensures.err)

pub returns-clause-ran : goal.returns-clause-ran
returns-clause-ran g c = ended _ _ _ _ _ _ _ _ _ c.in_ok-run_counted.ensures.ran (rw c.as_slice.ensures at c.halt_open.ensures.nodes) c.in_ok-write_ending.ensures.ok c.in_ok-write_ending.ensures.outcome
    (halted_still _ _ _ _ c.in_ok-write_ending.ensures.core (rw c.as_slice.ensures at c.halt_open.ensures.halted))

-- ---- where memory was refused

pub returns-in_err-run_counted-clause-stopped : goal.returns-in_err-run_counted-clause-stopped
returns-in_err-run_counted-clause-stopped g c = λ memory. stopped_last _ _ _ _ _ _ (c.in_err-run_counted.ensures.stopped (passed_on _ _ c.from_residual.ensures.1 memory))

pub returns-in_err-write_ending-clause-stopped : goal.returns-in_err-write_ending-clause-stopped
returns-in_err-write_ending-clause-stopped g c =
    λ memory. stopped_ending _ _ _ _ _ _ _ _ _ c.in_ok-run_counted.ensures.ran (rw c.as_slice.ensures at c.halt_open.ensures.nodes) (c.in_err-write_ending.ensures.stopped (passed_on _ _ c.from_residual-in_err-write_ending.ensures.1 memory))
