use Rattle.listing.specs.laws.Bytes.{on_err}
use Rattle.script_run.proofs.Runs.{Broke-before}
use Rattle.std.proofs.Common.{refl}
use Rattle.script_run.proofs.Stopped.{Stopped-before}
use Rattle.script_run.proofs.lines.end_line.Goals as goal

pub returns-in_err-extend_line-clause-err : goal.returns-in_err-extend_line-clause-err
returns-in_err-extend_line-clause-err g c = on_err _ _ (Broke-before _ _ _)

pub returns-in_err-extend_line-clause-stopped : goal.returns-in_err-extend_line-clause-stopped
returns-in_err-extend_line-clause-stopped g c = λ _. Stopped-before _ _ _ _ refl refl
