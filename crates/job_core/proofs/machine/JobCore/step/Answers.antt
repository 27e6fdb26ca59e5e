use Rattle.std.proofs.Common.{◌≡◌, true, sym, ap, ◌∙◌}
use Rattle.job_core.specs.AtWork.{is_at_work}
use Rattle.job_core.specs.Cores.{Cored}
use Rattle.job_core.specs.Joined.{machine_shown}
use Rattle.job_core.proofs.AtWork.{rests}
use Rattle.job_core.proofs.Bases.{behind_after}
use Rattle.job_core.proofs.machine.JobCore.step.Goals as goal

pub invariant_of-self : goal.invariant_of-self
invariant_of-self c = (
  c.step_kept.ensures.step.whole,
  (
    behind_after _ _ _ _ c.args.job c.args.command c.step_kept.result c.step_kept.ensures.base c.step_kept.ensures.step.machine c.self.invariant.1.0,
    c.step_kept.ensures.kept,
  ),
)

pub invariant_of-self-else-is_kept : goal.invariant_of-self-else-is_kept
invariant_of-self-else-is_kept c = (
  c.step_first.ensures.step.whole,
  (
    behind_after _ _ _ _ c.args.job c.args.command c.step_first.result c.step_first.ensures.base c.step_first.ensures.step.machine c.self.invariant.1.0,
    c.step_first.ensures.kept,
  ),
)

pub returns-else-is_kept-clause-sure : goal.returns-else-is_kept-clause-sure
returns-else-is_kept-clause-sure c = λ halts works.
    let s = machine_shown c.self.inside.engine in
    let works_there : is_at_work c.args.job s ≡ true = ap (λ (k : Cored). is_at_work c.args.job k.machine) c.self.view_is ∙ works in
    absurd (rests c.self.inside.ends.items c.self.inside.engine.core.ends c.args.job s c.self.invariant.1.1 c.is_kept.ensures.low (sym c.is_kept.ensures.kept ∙ c.if-is_kept.false) works_there)
