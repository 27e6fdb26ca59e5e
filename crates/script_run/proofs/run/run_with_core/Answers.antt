use Rattle.std.proofs.Common.{sym, ap, subst}
use Rattle.serial.specs.Soundness.{IsGood}
use Rattle.job_core.specs.Cores.{Cored}
use Rattle.script_run.proofs.Stands.{begun_first}
use Rattle.script_run.specs.laws.Good.{good_start}
use Rattle.script_run.proofs.Stopped.{kept_first}
use Rattle.script_run.proofs.run.run_with_core.Goals as goal

pub run_whole-requires-clause-good : goal.run_whole-requires-clause-good
run_whole-requires-clause-good g c = subst IsGood (ap (λ (core : Cored). core.machine) (sym c.in-Ok.ensures.core)) (good_start _ c.requires.legal c.requires.closed)

pub returns-in-Err-clause-begun : goal.returns-in-Err-clause-begun
returns-in-Err-clause-begun g c = begun_first _ _ _ _ (good_start _ c.requires.legal c.requires.closed)

pub returns-in-Err-clause-unlost : goal.returns-in-Err-clause-unlost
returns-in-Err-clause-unlost g c = λ _. kept_first _ _ _ _
