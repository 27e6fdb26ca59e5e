use Rattle.std.proofs.Common.{refl}
use Rattle.script_run.proofs.Runs.{Ran-written}
use Rattle.script_run.proofs.answers.show.Goals as goal

pub returns-clause-ran : goal.returns-clause-ran
returns-clause-ran g c = Ran-written _ _ _ _ c.in_ok-write_gathered.ensures.ok refl c.in_ok-write_gathered.ensures.empty refl refl
