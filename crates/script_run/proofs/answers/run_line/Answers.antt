use Rattle.listing.specs.laws.Bytes.{on_err}
use Rattle.std.proofs.Common.{refl}
use Rattle.script_run.proofs.Runs.{Ran-one, Broke-one, Broke-lost}
use Rattle.script_run.proofs.Stopped.{Stopped-one}
use Rattle.script_run.proofs.answers.run_line.Goals as goal

-- nothing was written
pub returns-in_err-gather_line-clause-err : goal.returns-in_err-gather_line-clause-err
returns-in_err-gather_line-clause-err g c = on_err _ _ (Broke-lost c.args.line.now c.args.script.now _ _ c.in_err-gather_line.ensures.lost)

-- a beginning of what is gathered was written
pub returns-in_err-write_full-clause-err : goal.returns-in_err-write_full-clause-err
returns-in_err-write_full-clause-err g c = on_err _ _ (Broke-one c.args.line.now c.args.script.now _ _ _ c.in_ok-gather_line.ensures.gathered c.in_err-write_full.ensures.err)

-- pass and checkpoint leave the machine
pub returns-clause-ran : goal.returns-clause-ran
returns-clause-ran g c = Ran-one c.args.line.now c.args.script.now _ _ _ _ c.in_ok-gather_line.ensures.gathered c.keep_up.ensures.machine c.in_ok-write_full.ensures.ok refl refl

-- the line was done, and its reply found no memory
pub returns-in_err-gather_line-clause-stopped : goal.returns-in_err-gather_line-clause-stopped
returns-in_err-gather_line-clause-stopped g c = λ _. Stopped-one c.args.line.now c.args.script.now _ _ c.in_err-gather_line.ensures.lost
