use Rattle.std.proofs.Common.{refl}
use Rattle.script_run.proofs.Runs.{Ran-none}
use Rattle.script_run.proofs.answers.tell_done.Goals as goal

pub returns-else-done-clause-ran : goal.returns-else-done-clause-ran
returns-else-done-clause-ran g c = Ran-none _ _ _ refl refl refl refl
