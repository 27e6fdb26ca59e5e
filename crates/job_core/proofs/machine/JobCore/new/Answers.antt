use Rattle.std.proofs.Common.{sym, subst}
use Rattle.job_core.specs.AtWork.{AreKept}
use Rattle.job_core.specs.Joined.{machine_shown}
use Rattle.job_core.proofs.AtWork.{kept_none}
use Rattle.job_core.proofs.Bases.{behind_nothing}
use Rattle.job_core.proofs.machine.JobCore.new.Goals as goal

pub invariant_of-result : goal.invariant_of-result
invariant_of-result c =
    let e = c.new.result in (
      c.new.ensures.whole,
      (behind_nothing _ _ c.new.ensures.base c.new.ensures.machine, subst (λ flags. AreKept flags e.core.ends (machine_shown e)) (sym c.new-2.ensures.items) (kept_none e.core.ends (machine_shown e) c.new.ensures.machine)),
    )
