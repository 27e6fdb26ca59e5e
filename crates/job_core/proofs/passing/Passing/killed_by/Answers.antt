use Rattle.std.proofs.Common.{sym, subst}
use Rattle.std.specs.Prelude.{IfSome}
use Rattle.command.specs.Data.{data_after}
use Rattle.stretches.specs.Empty.{IsEmpty}
use Rattle.job_core.proofs.passing.Passing.killed_by.Goals as goal

pub returns-else-not-are_sought_by_kill : goal.returns-else-not-are_sought_by_kill
returns-else-not-are_sought_by_kill c = λ m. subst (λ k. IfSome c.scout_kill.result (λ s. IsEmpty s (data_after k m))) (sym c.in-Kill.is) (c.scout_kill.ensures m)
