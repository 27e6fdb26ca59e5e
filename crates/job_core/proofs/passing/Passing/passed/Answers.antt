use Rattle.std.proofs.Common.{subst}
use Rattle.std.specs.Prelude.{IfSome}
use Rattle.stretches.specs.Empty.{IsEmpty}
use Rattle.job_core.proofs.passing.Passing.passed.Goals as goal

pub returns : goal.returns
returns c = subst (λ m. IfSome c.scout_past.result (λ s. IsEmpty s m)) c.view_now-view.ensures c.scout_past.ensures
