use Rattle.std.proofs.Common.{sym, subst}
use Rattle.std.specs.Prelude.{IfSome}
use Rattle.command.specs.Data.{data_after}
use Rattle.stretches.specs.Empty.{IsEmpty}
use Rattle.validate_commit.proofs.work.Work.passed_by_kill.Goals as goal

pub returns-in-Kill : goal.returns-in-Kill
returns-in-Kill c = λ m. subst (λ k. IfSome c.scout_kill.result (λ s. IsEmpty s (data_after k m))) (sym c.in-Kill.is) (c.scout_kill.ensures m)
